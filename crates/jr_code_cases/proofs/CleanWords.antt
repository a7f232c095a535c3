-- Modifiers that are not bad, computed.
use Rattle.std.proofs.lemmas.Bool.{and_parts}
use Rattle.std.proofs.Common.{◌≡◌, ℕ, List, [], ◌∷◌, Bool, true, false, ◌&&◌, ◌||◌, refl, sym, ap, subst, ◌∙◌, inl, inr, eq-eqb}
use Rattle.std.specs.Prelude.{◌⊎◌, nat_eq, not}
use Rattle.jr_ast.specs.declared.operators.ModWord.{ModWord}
use Rattle.jr_ast.specs.declared.operators.ModWord.TheVariants.{Public, Protected, Private, Static, Final, Volatile, Synchronized}
use Rattle.jr_table.specs.Resolving.{HasWord}
use Rattle.jr_table.specs.Faults.{IsAccess, TopWord, FieldWord, MethodWord, AreBad}
use Rattle.jr_code_cases.proofs.Pairing.{all, pairs, pairs_at}

abbrev number : ModWord → ℕ
number Public = 0
number Protected = 1
number Private = 2
number Static = 3
number Final = 4
number Volatile = 5
number Synchronized = 6

abbrev pub is_access : ModWord → Bool
is_access Public = true
is_access Protected = true
is_access Private = true
is_access Static = false
is_access Final = false
is_access Volatile = false
is_access Synchronized = false

abbrev is_final : ModWord → Bool
is_final w = nat_eq (number w) 4

abbrev is_volatile : ModWord → Bool
is_volatile w = nat_eq (number w) 5

-- they may stand in one list
abbrev go_together : ModWord → ModWord → Bool
go_together v w = not (nat_eq (number v) (number w)) && (not (is_access v && is_access w) && (not (is_final v && is_volatile w) && not (is_volatile v && is_final w)))

abbrev pub top_word : ModWord → Bool
top_word w = nat_eq (number w) 0 || nat_eq (number w) 4

abbrev pub field_word : ModWord → Bool
field_word w = not (nat_eq (number w) 6)

abbrev pub method_word : ModWord → Bool
method_word w = not (nat_eq (number w) 5)

abbrev pub words_pass : (ModWord → Bool) → List ModWord → Bool
words_pass may ws = all may ws && pairs go_together ws

top_is : (w : ModWord) → top_word w ≡ true → TopWord w
top_is Public e = tt
top_is Final e = tt
top_is Protected e = absurd cc
top_is Private e = absurd cc
top_is Static e = absurd cc
top_is Volatile e = absurd cc
top_is Synchronized e = absurd cc

field_is : (w : ModWord) → field_word w ≡ true → FieldWord w
field_is Public e = tt
field_is Protected e = tt
field_is Private e = tt
field_is Static e = tt
field_is Final e = tt
field_is Volatile e = tt
field_is Synchronized e = absurd cc

method_is : (w : ModWord) → method_word w ≡ true → MethodWord w
method_is Public e = tt
method_is Protected e = tt
method_is Private e = tt
method_is Static e = tt
method_is Final e = tt
method_is Synchronized e = tt
method_is Volatile e = absurd cc

access_is : (w : ModWord) → is_access w ≡ true → IsAccess w
access_is Public e = tt
access_is Protected e = tt
access_is Private e = tt
access_is Static e = absurd cc
access_is Final e = absurd cc
access_is Volatile e = absurd cc
access_is Synchronized e = absurd cc

is_one : (w : ModWord) → IsAccess w → is_access w ≡ true
is_one Public h = refl
is_one Protected h = refl
is_one Private h = refl
is_one Static h = absurd h
is_one Final h = absurd h
is_one Volatile h = absurd h
is_one Synchronized h = absurd h

pub false_true : (b : Bool) → b ≡ true → not b ≡ true → ⊥
false_true true e f = absurd cc
false_true false e f = absurd cc

all_has : (may : ModWord → Bool) (ws : List ModWord) (w : ModWord) → all may ws ≡ true → HasWord ws w → may w ≡ true
all_has may [] w e h = absurd h
all_has may (x ∷ xs) w e (inl is) = subst (λ (v : ModWord). may v ≡ true) is (and_parts (may x) (all may xs) e).0
all_has may (x ∷ xs) w e (inr h) = all_has may xs w (and_parts (may x) (all may xs) e).1 h

two_have : (ws : List ModWord) (v w : ModWord) → pairs go_together ws ≡ true → HasWord ws v → HasWord ws w → (v ≡ w) ⊎ ((go_together v w ≡ true) ⊎ (go_together w v ≡ true))
two_have [] v w e h k = absurd h
two_have (x ∷ xs) v w e (inl a) (inl b) = inl (sym a ∙ b)
two_have (x ∷ xs) v w e (inl a) (inr k) = inr (inl (subst (λ (u : ModWord). go_together u w ≡ true) a (all_has (go_together x) xs w (and_parts (all (go_together x) xs) (pairs go_together xs) e).0 k)))
two_have (x ∷ xs) v w e (inr h) (inl b) = inr (inr (subst (λ (u : ModWord). go_together u v ≡ true) b (all_has (go_together x) xs v (and_parts (all (go_together x) xs) (pairs go_together xs) e).0 h)))
two_have (x ∷ xs) v w e (inr h) (inr k) = two_have xs v w (and_parts (all (go_together x) xs) (pairs go_together xs) e).1 h k

no_two_access : (v w : ModWord) → IsAccess v → IsAccess w → go_together v w ≡ true → ⊥
no_two_access v w a b e =
    let t = and_parts (not (nat_eq (number v) (number w))) _ e in
    let u = and_parts (not (is_access v && is_access w)) _ t.1 in
    false_true (is_access v && is_access w) ((λ i. is_one v a i && is_access w) ∙ is_one w b) u.0

module _ (May : ModWord → Type 0) (may : ModWord → Bool) (means : (w : ModWord) → may w ≡ true → May w) where
  not_bad : (ws : List ModWord) → words_pass may ws ≡ true → AreBad May ws → ⊥
  not_bad ws e (inl (w, (i, j, less, at, other))) =
      let t = pairs_at go_together ws i j w w (and_parts (all may ws) (pairs go_together ws) e).1 less at other in
      false_true (nat_eq (number w) (number w)) (eq-eqb (number w) (number w) refl) (and_parts (not (nat_eq (number w) (number w))) _ t).0
  not_bad ws e (inr (inl (v, w, differ, a, b, h, k))) = elim (two_have ws v w (and_parts (all may ws) (pairs go_together ws) e).1 h k) [
    | inl same ↦ differ same
    | inr (inl t) ↦ no_two_access v w a b t
    | inr (inr t) ↦ no_two_access w v b a t
  ]
  not_bad ws e (inr (inr (inl (w, has, never)))) = never (means w (all_has may ws w (and_parts (all may ws) (pairs go_together ws) e).0 has))
  not_bad ws e (inr (inr (inr (h, k)))) = elim (two_have ws Final Volatile (and_parts (all may ws) (pairs go_together ws) e).1 h k) [
    | inl same ↦ (let n = ap number same in absurd cc)
    | inr (inl t) ↦ (let f : false ≡ true = t in absurd cc)
    | inr (inr t) ↦ (let f : false ≡ true = t in absurd cc)
  ]

pub top_clean : (ws : List ModWord) → words_pass top_word ws ≡ true → AreBad TopWord ws → ⊥
top_clean = not_bad TopWord top_word top_is

pub field_clean : (ws : List ModWord) → words_pass field_word ws ≡ true → AreBad FieldWord ws → ⊥
field_clean = not_bad FieldWord field_word field_is

pub method_clean : (ws : List ModWord) → words_pass method_word ws ≡ true → AreBad MethodWord ws → ⊥
method_clean = not_bad MethodWord method_word method_is

pub ctor_clean : (ws : List ModWord) → words_pass is_access ws ≡ true → AreBad IsAccess ws → ⊥
ctor_clean = not_bad IsAccess is_access access_is
