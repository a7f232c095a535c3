-- Lines are put behind others: they are counted, and kept too or not.
use Rattle.std.proofs.Common.{◌≡◌, ◌+◌, ℕ, List, [], ◌∷◌, ◌++◌, codes, length, map, refl, sym, ap, subst, ◌∙◌, append_assoc, arith}
use Rattle.std.specs.Prelude.{slice_index, slice_index_or, Bool, true, false}
use Rattle.std.proofs.lemmas.Bool.{false≢true}
use Rattle.std.specs.List.{sum_by}
use Rattle.std.proofs.Math.ListN.{get_or-map}
use Rattle.std.proofs.lemmas.List.{append-nil, length-append}
use Rattle.std.proofs.lemmas.List.Sums.{sum_by-append, sum_by_push}
use Rattle.jr_lines.specs.Lines.{bytes_of}
use Rattle.jr_dependences.specs.declared.dependence.Dependence.{Dependence}
use Rattle.jr_dependences.specs.KindNames.{kind_name}
use Rattle.jr_dependences.specs.Weights.{pair_weight}
use Rattle.jr_dependence_lines.specs.declared.tallies.Tally.{Tally}
use Rattle.jr_dependence_lines.specs.Tallies.{Tallies, Puts, told, all_told}

-- one more line is counted and kept
pub puts_one : (old new : Tally) (text : List ℕ) → new.keeps ≡ old.keeps → new.len ≡ old.len + length text → new.lines.items ≡ old.lines.items ++ text ∷ [] → Puts old new (text ∷ [])
puts_one old new text same len lines before keeps there h = record {
  keeps_is = same ∙ h.keeps_is;
  counted = len ∙ ap (λ n. n + length text) h.counted ∙ sum;
  kept = λ on. lines ∙ ap (λ l. l ++ text ∷ []) (h.kept (sym same ∙ on));
}
  where
    sum : before + bytes_of there + length text ≡ before + bytes_of (there ++ text ∷ [])
    sum = let all : bytes_of (there ++ text ∷ []) ≡ bytes_of there + length text = sum_by_push (λ (l : List ℕ). length l) there text in omega (arith, all)

pub puts_none : (t : Tally) → Puts t t []
puts_none t before keeps there h = subst (λ l. Tallies before keeps t l) (sym (append-nil there)) h

pub puts_then : (a b c : Tally) (xs ys : List (List ℕ)) → Puts a b xs → Puts b c ys → Puts a c (xs ++ ys)
puts_then a b c xs ys f g before keeps there h = subst (λ l. Tallies before keeps c l) (append_assoc there xs ys) (g before keeps (there ++ xs) (f before keeps there h))

-- other texts that are the same
pub puts_as : (a b : Tally) (xs ys : List (List ℕ)) → xs ≡ ys → Puts a b xs → Puts a b ys
puts_as a b xs ys e f = subst (λ l. Puts a b l) e f

-- lines are counted only, where none is kept
pub puts_past : (old new : Tally) (texts : List (List ℕ)) → old.keeps ≡ false → new.keeps ≡ old.keeps → new.len ≡ old.len + bytes_of texts → Puts old new texts
puts_past old new texts past same len before keeps there h = record {
  keeps_is = same ∙ h.keeps_is;
  counted = len ∙ ap (λ n. n + bytes_of texts) h.counted ∙ sum;
  kept = λ on. absurd (false≢true (sym past ∙ sym same ∙ on));
}
  where
    sum : before + bytes_of there + bytes_of texts ≡ before + bytes_of (there ++ texts)
    sum = let all : bytes_of (there ++ texts) ≡ bytes_of there + bytes_of texts = sum_by-append (λ (l : List ℕ). length l) there texts in omega (arith, all)

-- ---- what lines weigh

sum_first : {X : Type 0} (f : X → ℕ) (x : X) (xs : List X) → sum_by f (x ∷ xs) ≡ f x + sum_by f xs
sum_first {X = X} f x xs =
    let all : sum_by f (x ∷ xs) ≡ sum_by f (x ∷ []) + sum_by f xs = sum_by-append f (x ∷ []) xs in
    let one : sum_by f (x ∷ []) ≡ f x = omega arith in
    omega (arith, all, one)

behind : (xs ys : List ℕ) → length ((xs ++ codes " ") ++ ys) ≡ length xs + length ys + 1
behind xs ys =
    let one : length ((xs ++ codes " ") ++ ys) ≡ length (xs ++ codes " ") + length ys = length-append (xs ++ codes " ") ys in
    let two : length (xs ++ codes " ") ≡ length xs + length (codes " ") = length-append xs (codes " ") in
    let space : length (codes " ") ≡ 1 = refl in
    omega (arith, one, two, space)

words_len : (head kind from to : List ℕ) → length (head ++ codes " " ++ kind ++ codes " " ++ from ++ codes " " ++ to) ≡ length head + length kind + length from + length to + 3
words_len head kind from to =
    let one : length ((head ++ codes " ") ++ kind) ≡ length head + length kind + 1 = behind head kind in
    let two : length ((((head ++ codes " ") ++ kind) ++ codes " ") ++ from) ≡ length ((head ++ codes " ") ++ kind) + length from + 1 = behind ((head ++ codes " ") ++ kind) from in
    let three : length ((((((head ++ codes " ") ++ kind) ++ codes " ") ++ from) ++ codes " ") ++ to) ≡ length ((((head ++ codes " ") ++ kind) ++ codes " ") ++ from) + length to + 1 = behind ((((head ++ codes " ") ++ kind) ++ codes " ") ++ from) to in
    omega (arith, one, two, three)

module _ (head : List ℕ) (places : List (List ℕ)) where
  abbrev w : Dependence → ℕ
  w d = pair_weight (length head + 3) (map length places) d

  line_len : (d : Dependence) → w d ≡ length (told head places d)
  line_len d =
      let kind = kind_name d.kind in
      let from = slice_index_or places d.first [] in
      let to = slice_index_or places d.second [] in
      let near : slice_index (map length places) d.first ≡ length from = get_or-map length places d.first [] in
      let far : slice_index (map length places) d.second ≡ length to = get_or-map length places d.second [] in
      let words : length (told head places d) ≡ length head + length kind + length from + length to + 3 = words_len head kind from to in
      omega (arith, near, far, words)

  pub lines_len : (list : List Dependence) → sum_by w list ≡ bytes_of (all_told head places list)
  lines_len [] = refl
  lines_len (d ∷ ds) =
      let this : w d ≡ length (told head places d) = line_len d in
      let rest : sum_by w ds ≡ bytes_of (all_told head places ds) = lines_len ds in
      let one : sum_by w (d ∷ ds) ≡ w d + sum_by w ds = sum_first w d ds in
      let two : bytes_of (told head places d ∷ all_told head places ds) ≡ length (told head places d) + bytes_of (all_told head places ds) = sum_first (λ (l : List ℕ). length l) (told head places d) (all_told head places ds) in
      omega (arith, this, rest, one, two)
