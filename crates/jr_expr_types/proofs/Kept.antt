-- Types are kept apart from slots: ways need none of them, and what is seen stays where more are kept.
use Rattle.std.proofs.Common.{◌≡◌, ℕ, zero, suc, ◌-◌, ◌+◌, ◌≤◌, ◌<◌, List, [], ◌∷◌, ◌++◌, length, map, Option, Some, None, refl, sym, ap, subst, ◌∙◌, inl, inr, arith}
use Rattle.std.specs.Prelude.{option_map, nat_lt, if◌then◌else◌}
use Rattle.std.proofs.lemmas.List.{length-append, map-append}
use Rattle.std.proofs.lemmas.List.Elements.{All-nil, All-cons, All-head, All-tail, All-append, All-weaker, All-same}
use Rattle.jr_table.specs.Keys.{Ty}
use Rattle.jr_table.specs.TypeView.{ty_of}
use Rattle.jr_table.specs.declared.types.Ty as raw_ty
use Rattle.jr_expr_types.specs.declared.types.Slot as raw
use Rattle.jr_expr_types.specs.SlotView.{slot_of, shape_of, AreTyped, Grows}
use Rattle.jr_expr_types.specs.Slots.{Slot, last_slot, size_of, skip, part_end}
use Rattle.jr_expr_types.proofs.Listed.{last_shown, last_stays, which}

-- ---- ways through slots

module _ (types : List raw_ty.Ty) (slots : List raw.Slot) where
  abbrev typed : List Slot
  typed = map (slot_of types) slots

  abbrev plain : List Slot
  plain = map shape_of slots

  size_same : (end : ℕ) → size_of (last_slot typed end) ≡ size_of (last_slot plain end)
  size_same end =
      ap size_of (sym (last_shown (slot_of types) slots end _ refl)) ∙ of_same (last_slot slots end) ∙ ap size_of (last_shown shape_of slots end _ refl)
    where
      of_same : (o : Option raw.Slot) → size_of (option_map (slot_of types) o) ≡ size_of (option_map shape_of o)
      of_same None = refl
      of_same (Some s) = refl

  skip_same : (count end : ℕ) → skip typed count end ≡ skip plain count end
  unfolding skip
  skip_same zero end = refl
  skip_same (suc n) end =
      skip_same n (end - size_of (last_slot typed end)) ∙ ap (λ m. skip plain n (end - m)) (size_same end)

  pub part_same : (step end : ℕ) → part_end typed (last_slot typed end) step end ≡ part_end plain (last_slot plain end) step end
  part_same step end =
      ap (λ o. part_end typed o step end) (sym (last_shown (slot_of types) slots end _ refl)) ∙ of_part (last_slot slots end) ∙ ap (λ o. part_end plain o step end) (last_shown shape_of slots end _ refl)
    where
      of_part : (o : Option raw.Slot) → part_end typed (option_map (slot_of types) o) step end ≡ part_end plain (option_map shape_of o) step end
      of_part None = refl
      of_part (Some s) = ap (λ (n : ℕ). if nat_lt step s.count then Some n else None) (skip_same (s.count - 1 - step) (end - 1))

-- ---- kept types

-- a search that goes up by one
pub none_more : (P : ℕ → Type 0) (first i : ℕ) → ((n : ℕ) → first ≤ n → n < i → P n → ⊥) → (P i → ⊥) → (n : ℕ) → first ≤ n → n < i + 1 → P n → ⊥
none_more P first i before here n ge lt = elim (which n i) [
  | inl l ↦ before n ge l
  | inr g ↦ λ p. let e : n ≡ i = omega (arith, lt, g) in here (subst P e p)
]

grows_length : {X : Type 0} (old new : List X) → Grows old new → length old ≤ length new
grows_length old new grows = let e = ap length grows.1 ∙ length-append old grows.0 in omega (arith, e)

typed_more : (types next : List raw_ty.Ty) (slots : List raw.Slot) → Grows types next → AreTyped types slots → AreTyped next slots
typed_more types next slots grows are =
    let l = grows_length types next grows in
    All-weaker (λ s. s.ty ≤ length types) (λ s. s.ty ≤ length next) (λ s le. omega (arith, l, le)) slots are

-- ---- a node is put behind slots, where more types may have been kept

pub typed_kept : (types next : List raw_ty.Ty) (slots new : List raw.Slot) → AreTyped types slots → Grows types next → new ≡ slots → AreTyped next new
typed_kept types next slots new are grows same =
    All-same (λ s. s.ty ≤ length next) new slots same (typed_more types next slots grows are)

pub typed_put : (types next : List raw_ty.Ty) (slots new : List raw.Slot) (s : raw.Slot) → AreTyped types slots → Grows types next → new ≡ slots ++ s ∷ [] → s.ty ≤ length next → AreTyped next new
typed_put types next slots new s are grows put within =
    let P : raw.Slot → Type 0 = λ z. z.ty ≤ length next in
    All-same P new (slots ++ s ∷ []) put (All-append P slots (s ∷ []) (typed_more types next slots grows are) (All-cons P s [] within (All-nil P)))

shown_more : (types more : List raw_ty.Ty) (slots : List raw.Slot) → AreTyped types slots → map (slot_of (types ++ more)) slots ≡ map (slot_of types) slots
shown_more types more [] are = refl
shown_more types more (s ∷ ss) are =
    let make : Option raw_ty.Ty → Slot = λ o. record { size = s.size; count = s.count; type = option_map ty_of o } in
    let own : slot_of (types ++ more) s ≡ slot_of types s = ap make (last_stays types more s.ty (All-head (λ z. z.ty ≤ length types) s ss are)) in
    λ j. own j ∷ shown_more types more ss (All-tail (λ z. z.ty ≤ length types) s ss are) j

pub viewed : (types next : List raw_ty.Ty) (slots new : List raw.Slot) (s : raw.Slot) (size : ℕ) (type : Option Ty) → AreTyped types slots → Grows types next → new ≡ slots ++ s ∷ [] → s.size ≡ size → option_map ty_of (last_slot next s.ty) ≡ type → map (slot_of next) new ≡ map (slot_of types) slots ++ record { size = size; count = s.count; type = type } ∷ []
viewed types next slots new s size type are grows put large is =
    let make : ℕ → Option Ty → Slot = λ n o. record { size = n; count = s.count; type = o } in
    let old : map (slot_of next) slots ≡ map (slot_of types) slots = ap (λ l. map (slot_of l) slots) grows.1 ∙ shown_more types grows.0 slots are in
    ap (map (slot_of next)) put ∙ map-append (slot_of next) slots (s ∷ []) ∙ (λ j. old j ++ make (large j) (is j) ∷ [])
