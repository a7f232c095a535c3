-- The pure slot that a slot stands for.
use Rattle.std.specs.Prelude.{◌≡◌, ◌≤◌, List, ◌++◌, None, length, option_map}
use Rattle.std.specs.List.{All}
use Rattle.jr_table.specs.TypeView.{ty_of}
use Rattle.jr_table.specs.declared.types.Ty as raw_ty
use Rattle.jr_expr_types.specs.declared.types.Slot as raw
use Rattle.jr_expr_types.specs.Slots.{Slot, last_slot}

-- Its type is the one in front of this end of the kept ones.
abbrev pub slot_of : (types : List raw_ty.Ty) → raw.Slot → Slot
slot_of types s = record {
  size = s.size;
  count = s.count;
  type = option_map ty_of (last_slot types s.ty);
}

-- what ways through slots ask of it
abbrev pub shape_of : raw.Slot → Slot
shape_of s = record { size = s.size; count = s.count; type = None }

-- the types of all slots are kept
abbrev pub AreTyped : (types : List raw_ty.Ty) → List raw.Slot → Type 0
AreTyped types slots = All (λ s. s.ty ≤ length types) slots

-- some more are kept behind the old ones
abbrev pub Grows : {X : Type 0} → (old new : List X) → Type 0
Grows {X = X} old new = (more : List X) × (new ≡ old ++ more)
