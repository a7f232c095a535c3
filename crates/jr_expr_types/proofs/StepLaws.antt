-- Slots are walked step by step.
use Rattle.std.proofs.Common.{◌≡◌, ℕ, zero, suc, ◌+◌, ◌-◌, ◌<◌, ◌≤◌, List, ◌∷◌, length, drop, Option, Some, None, refl, sym, ap, ◌∙◌, arith}
use Rattle.std.specs.Prelude.{slice_get, option_and_then}
use Rattle.std.proofs.lemmas.List.{drop_all}
use Rattle.jr_table.specs.Keys.{Ty}
use Rattle.jr_expr_types.specs.Slots.{Slot, last_slot, size_of, skip, part_end, find}

pub last_get : {S : Type 0} (xs : List S) (end : ℕ) → (end ≡ 0 → ⊥) → slice_get xs (end - 1) ≡ last_slot xs end
last_get xs zero h = absurd (h refl)
last_get xs (suc n) h = let e : suc n - 1 ≡ n = omega arith in ap (slice_get xs) e

module _ (xs : List Slot) where
  pub next_skip : (count i left next all : ℕ) → i < count → next ≡ left - size_of (last_slot xs left) → skip xs (count - i) left ≡ all → skip xs (count - (i + 1)) next ≡ all
  unfolding skip
  next_skip count i left next all lt is so_far =
      let one_more : count - i ≡ suc (count - (i + 1)) = omega (arith, lt) in
      ap (skip xs (count - (i + 1))) is ∙ sym (ap (λ n. skip xs n left) one_more) ∙ so_far

  pub skip_done : (count i left all : ℕ) → count ≤ i → skip xs (count - i) left ≡ all → left ≡ all
  unfolding skip
  skip_done count i left all le so_far =
      let none : count - i ≡ 0 = omega (arith, le) in
      sym (ap (λ n. skip xs n left) none) ∙ so_far

  module _ (steps : List ℕ) (i end : ℕ) (all : Option Ty) where
    pub next_found : (step below : ℕ) → drop i steps ≡ step ∷ drop (i + 1) steps → part_end xs (last_slot xs end) step end ≡ Some below → find xs end (drop i steps) ≡ all → find xs below (drop (i + 1) steps) ≡ all
    unfolding find
    next_found step below is part so_far = sym (ap (find xs end) is ∙ ap (option_and_then (λ e. find xs e (drop (i + 1) steps))) part) ∙ so_far

    pub none_found : (step : ℕ) → drop i steps ≡ step ∷ drop (i + 1) steps → part_end xs (last_slot xs end) step end ≡ None → find xs end (drop i steps) ≡ all → None ≡ all
    unfolding find
    none_found step is part so_far = sym (ap (find xs end) is ∙ ap (option_and_then (λ e. find xs e (drop (i + 1) steps))) part) ∙ so_far

    pub all_found : length steps ≤ i → find xs end (drop i steps) ≡ all → option_and_then (λ (s : Slot). s.type) (last_slot xs end) ≡ all
    unfolding find
    all_found le so_far = sym (ap (find xs end) (drop_all i steps le)) ∙ so_far
