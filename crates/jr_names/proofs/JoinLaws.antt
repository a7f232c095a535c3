-- Types with a comma between each two, as a loop writes them.
use Rattle.std.proofs.Common.{◌≡◌, ℕ, ◌+◌, ◌<◌, List, [], ◌∷◌, ◌++◌, length, get_or, take, map, refl, sym, ap, ◌∙◌, append_assoc}
use Rattle.std.specs.List.{join_with_byte}
use Rattle.std.proofs.lemmas.List.{map_more, map-append}
use Rattle.jr_table.specs.Keys as keys
use Rattle.jr_table.specs.TypeView.{ty_of}
use Rattle.jr_table.specs.declared.types.Ty.{Ty}
use Rattle.jr_names.specs.DeclTexts.{ty_text, types_text}

-- one piece more behind the others
join-push : (c : ℕ) (x : List ℕ) (xs : List (List ℕ)) (y : List ℕ) → join_with_byte c (x ∷ (xs ++ y ∷ [])) ≡ join_with_byte c (x ∷ xs) ++ c ∷ y
join-push c x [] y = refl
join-push c x (z ∷ xs) y = ap (λ t. x ++ (c ∷ t)) (join-push c z xs y) ∙ sym (append_assoc x (c ∷ join_with_byte c (z ∷ xs)) (c ∷ y))

-- what is written of the types up to one, and with it
pub types_more : (first : keys.Ty) (rest : List Ty) (i : ℕ) (x : Ty) → i < length rest → x ≡ get_or rest i x
    → types_text (first ∷ map ty_of (take (i + 1) rest)) ≡ types_text (first ∷ map ty_of (take i rest)) ++ 44 ∷ ty_text (ty_of x)
types_more first rest i x l e =
    let more : map ty_of (take (i + 1) rest) ≡ map ty_of (take i rest) ++ ty_of x ∷ [] = map_more ty_of rest i x l ∙ ap (λ y. map ty_of (take i rest) ++ ty_of y ∷ []) (sym e) in
    ap (λ ts. types_text (first ∷ ts)) more ∙ (ap (λ ts. join_with_byte 44 (ty_text first ∷ ts)) (map-append ty_text (map ty_of (take i rest)) (ty_of x ∷ []))
    ∙ join-push 44 (ty_text first) (map ty_text (map ty_of (take i rest))) (ty_text (ty_of x)))
