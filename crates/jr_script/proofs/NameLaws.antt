-- A name among names, as a loop looks for it.
use Rattle.std.proofs.Common.{◌≡◌, ℕ, ◌<◌, List, length, map, get_or, true, false, true≢false, Contains, Bor, sym, ◌∙◌, arith}
use Rattle.std.specs.Cmp.Lexicographic.{pointwise}
use Rattle.std.specs.Prelude.{nat_eq}
use Rattle.std.proofs.lemmas.List.{get_or-map, length-map}
use Rattle.std.proofs.lemmas.Slice.Eq.{bytes_eq-Decides}

abbrev pub texts_of : List (Bor (List ℕ)) → List (List ℕ)
texts_of names = map (λ n. n.now) names

pub same_text : (names : List (Bor (List ℕ))) (i : ℕ) (d : Bor (List ℕ)) (name : List ℕ) → i < length names → pointwise nat_eq (get_or names i d).now name ≡ true → get_or (texts_of names) i name ≡ name
same_text names i d name l e = get_or-map (λ n. n.now) names i d name l ∙ (bytes_eq-Decides (get_or names i d).now name).0 e

pub other_text : (names : List (Bor (List ℕ))) (i : ℕ) (d : Bor (List ℕ)) (name : List ℕ) → i < length names → pointwise nat_eq (get_or names i d).now name ≡ false → ¬ (get_or (texts_of names) i name ≡ name)
other_text names i d name l e h =
    true≢false (sym ((bytes_eq-Decides (get_or names i d).now name).1 (sym (get_or-map (λ n. n.now) names i d name l) ∙ h)) ∙ e)

pub Contains-text : (names : List (Bor (List ℕ))) (i : ℕ) (d : Bor (List ℕ)) (name : List ℕ) → i < length names → pointwise nat_eq (get_or names i d).now name ≡ true → Contains (texts_of names) name
Contains-text names i d name l e = (i, omega (arith, length-map names (λ n. n.now)), same_text names i d name l e)
