-- Texts that were seen, one after another.
use Rattle.std.proofs.Common.{◌≡◌, ◌≢◌, ◌∙◌, ◌<◌, ◌≤◌, ◌+◌, ◌||◌, ℕ, Bool, cond, true, false, not, zero, suc, refl, sym, ap, arith, subst, List, [], ◌∷◌, ◌++◌, length, take, drop, map, get_or, AllPairs, MatchBool, IsPermutation, Bor}
use Rattle.std.specs.List.{list_any}
use Rattle.std.specs.Str.{bytes_eq}
use Rattle.std.proofs.lemmas.Bool.{true≢false, MatchBool-at_true}
use Rattle.std.proofs.lemmas.List.{map-append, take_more, take_all, take-append-drop}
use Rattle.std.proofs.Math.Seq.{drop-cons}
use Rattle.std.proofs.lemmas.List.Quantifiers.{all_pairs_push}
use Rattle.std.proofs.lemmas.List.Sorted.{list_any-IsPermutation}
use Rattle.std.proofs.lemmas.Slice.Eq.{bytes_eq-Decides}
use Rattle.jr_words.specs.declared.words.Operand as raw
use Rattle.jr_words.specs.Asked.{operand_of}
use Rattle.jr_words.specs.Words.{Operand, Differ}

-- ---- lists

or_swap : (a b c : Bool) → (a || (b || c)) ≡ (b || (a || c))
or_swap true true c = refl
or_swap true false c = refl
or_swap false true c = refl
or_swap false false c = refl

any_push : (p : List ℕ → Bool) (xs : List (List ℕ)) (x : List ℕ) → list_any p (xs ++ x ∷ []) ≡ (p x || list_any p xs)
any_push p [] x = refl
any_push p (y ∷ ys) x = ap (λ (b : Bool). p y || b) (any_push p ys x) ∙ or_swap (p y) (p x) (list_any p ys)

none_at : (p : List ℕ → Bool) (xs : List (List ℕ)) → list_any p xs ≡ false → (k : ℕ) (d : List ℕ) → k < length xs → p (get_or xs k d) ≡ false
none_at p [] none k d below = absurd (omega (arith, below))
none_at p (x ∷ xs) none zero d below = of (p x) none
  where
    of : (b : Bool) → (b || list_any p xs) ≡ false → b ≡ false
    of true e = absurd (true≢false e)
    of false e = refl
none_at p (x ∷ xs) none (suc k) d below = none_at p xs (of (p x) none) k d (omega (arith, below))
  where
    of : (b : Bool) → (b || list_any p xs) ≡ false → list_any p xs ≡ false
    of true e = absurd (true≢false e)
    of false e = e

record SomeAt (p : List ℕ → Bool) (xs : List (List ℕ)) : Type 0 where
  pub place : ℕ
  pub below : place < length xs
  pub holds : (d : List ℕ) → p (get_or xs place d) ≡ true

some_at : (p : List ℕ → Bool) (xs : List (List ℕ)) → list_any p xs ≡ true → SomeAt p xs
some_at p [] e = absurd (true≢false (sym e))
some_at p (x ∷ xs) e = of (p x) refl e (some_at p xs)
  where
    of : (b : Bool) → p x ≡ b → (b || list_any p xs) ≡ true → (list_any p xs ≡ true → SomeAt p xs) → SomeAt p (x ∷ xs)
    of true is h below = record { place = 0; below = omega arith; holds = λ d. is }
    of false is h below = let rest = below h in record { place = suc rest.place; below = let b = rest.below in omega (arith, b); holds = rest.holds }

left_of : (xs ys : List (List ℕ)) (k : ℕ) (d : List ℕ) → k < length xs → get_or (xs ++ ys) k d ≡ get_or xs k d
left_of [] ys k d below = absurd (omega (arith, below))
left_of (x ∷ xs) ys zero d below = refl
left_of (x ∷ xs) ys (suc k) d below = left_of xs ys k d (omega (arith, below))

here_at : (xs ys : List (List ℕ)) (y d : List ℕ) → get_or (xs ++ y ∷ ys) (length xs) d ≡ y
here_at [] ys y d = refl
here_at (x ∷ xs) ys y d = here_at xs ys y d

length-here : (xs ys : List (List ℕ)) (y : List ℕ) → length xs < length (xs ++ y ∷ ys)
length-here [] ys y = omega arith
length-here (x ∷ xs) ys y = let rest = length-here xs ys y in omega (arith, rest)

-- ---- what was seen

abbrev pub Apart : List (List ℕ) → Type 0
Apart texts = AllPairs (λ (a b : List ℕ). a ≢ b) texts

abbrev pub Sees : List (Bor (List ℕ)) → List (List ℕ) → Type 0
Sees keys texts = (text : List ℕ) → list_any (λ (k : Bor (List ℕ)). bytes_eq text k.now) keys ≡ list_any (bytes_eq text) texts

see_more : (keys new : List (Bor (List ℕ))) (texts : List (List ℕ)) (e : Bor (List ℕ)) → Sees keys texts → IsPermutation (e ∷ keys) new → Sees new (texts ++ e.now ∷ [])
see_more keys new texts e sees perm text =
    sym (list_any-IsPermutation (λ (k : Bor (List ℕ)). bytes_eq text k.now) (e ∷ keys) new perm) ∙ ap (λ (b : Bool). bytes_eq text e.now || b) (sees text) ∙ sym (any_push (bytes_eq text) texts e.now)

apart_more : (keys : List (Bor (List ℕ))) (texts : List (List ℕ)) (t : List ℕ) → Apart texts → Sees keys texts → list_any (λ (k : Bor (List ℕ)). bytes_eq t k.now) keys ≡ false → Apart (texts ++ t ∷ [])
apart_more keys texts t apart sees none = all_pairs_push (λ (a b : List ℕ). a ≢ b) texts t apart (λ k d below same.
    true≢false (sym ((bytes_eq-Decides t (get_or texts k d)).1 (sym same)) ∙ none_at (bytes_eq t) texts (sym (sees t) ∙ none) k d below))

clash : (texts rest : List (List ℕ)) (t : List ℕ) → Apart (texts ++ t ∷ rest) → list_any (bytes_eq t) texts ≡ true → ⊥
clash texts rest t apart some =
    let at = some_at (bytes_eq t) texts some in
    let same : t ≡ get_or texts at.place t = (bytes_eq-Decides t (get_or texts at.place t)).0 (at.holds t) in
    apart at.place (length texts) t at.below (length-here texts rest t) (left_of texts (t ∷ rest) at.place t at.below ∙ sym same ∙ sym (here_at texts rest t t))

-- ---- operands

abbrev pub texts_in : List raw.Operand → List (List ℕ)
texts_in operands = map (λ (o : Operand). o.text) (map operand_of operands)

texts-append : (xs ys : List raw.Operand) → texts_in (xs ++ ys) ≡ texts_in xs ++ texts_in ys
texts-append xs ys = ap (map (λ (o : Operand). o.text)) (map-append operand_of xs ys) ∙ map-append (λ (o : Operand). o.text) (map operand_of xs) (map operand_of ys)

texts_more : (operands : List raw.Operand) (i : ℕ) (d : raw.Operand) → i < length operands → texts_in (take (i + 1) operands) ≡ texts_in (take i operands) ++ (get_or operands i d).text.now ∷ []
texts_more operands i d below = ap texts_in (take_more operands i d below) ∙ texts-append (take i operands) (get_or operands i d ∷ [])

texts_all : (operands : List raw.Operand) (i : ℕ) (d : raw.Operand) → i < length operands
    → texts_in operands ≡ texts_in (take i operands) ++ (get_or operands i d).text.now ∷ texts_in (drop (suc i) operands)
texts_all operands i d below =
    ap texts_in (sym (take-append-drop i operands)) ∙ texts-append (take i operands) (drop i operands) ∙ ap (λ (r : List raw.Operand). texts_in (take i operands) ++ texts_in r) (drop-cons operands i d below)

-- the operands in front of i differ, and are seen
pub record SeenTo (operands : List raw.Operand) (i : ℕ) (keys : List (Bor (List ℕ))) : Type 0 where
  pub apart : Apart (texts_in (take i operands))
  pub sees : Sees keys (texts_in (take i operands))

pub none_seen : (operands : List raw.Operand) (keys : List (Bor (List ℕ))) → keys ≡ [] → SeenTo operands 0 keys
none_seen operands keys empty = record {
  apart = λ i j d below within. absurd (omega (arith, within));
  sees = λ text. ap (list_any (λ (k : Bor (List ℕ)). bytes_eq text k.now)) empty;
}

pub one_seen : (operands : List raw.Operand) (i : ℕ) (d : raw.Operand) (keys new : List (Bor (List ℕ))) → i < length operands → SeenTo operands i keys
    → IsPermutation ((get_or operands i d).text ∷ keys) new → list_any (λ (k : Bor (List ℕ)). bytes_eq (get_or operands i d).text.now k.now) keys ≡ false → SeenTo operands (i + 1) new
one_seen operands i d keys new below seen perm none =
    let more = sym (texts_more operands i d below) in
    record {
      apart = subst Apart more (apart_more keys (texts_in (take i operands)) (get_or operands i d).text.now seen.apart seen.sees none);
      sees = subst (Sees new) more (see_more keys new (texts_in (take i operands)) (get_or operands i d).text seen.sees perm);
    }

pub all_seen : (operands : List raw.Operand) (i : ℕ) (keys : List (Bor (List ℕ))) → length operands ≤ i → SeenTo operands i keys → Differ (map operand_of operands)
all_seen operands i keys past seen = subst (λ (os : List raw.Operand). Apart (texts_in os)) (take_all i operands past) seen.apart

pub seen_twice : (operands : List raw.Operand) (i : ℕ) (d : raw.Operand) (keys : List (Bor (List ℕ))) → i < length operands → SeenTo operands i keys
    → list_any (λ (k : Bor (List ℕ)). bytes_eq (get_or operands i d).text.now k.now) keys ≡ true → Differ (map operand_of operands) → ⊥
seen_twice operands i d keys below seen some differ =
    clash (texts_in (take i operands)) (texts_in (drop (suc i) operands)) (get_or operands i d).text.now (subst Apart (texts_all operands i d below) differ) (sym (seen.sees (get_or operands i d).text.now) ∙ some)
