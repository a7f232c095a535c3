-- The ends of the parts of nodes that have many, listed from the last part on.
use Rattle.std.specs.Prelude.{◌≡◌, ◌<◌, ℕ, zero, suc, ◌+◌, ◌-◌, List, [], ◌∷◌, Some, map, slice_get}
use Rattle.jr_expr_types.specs.declared.types.Slot as raw
use Rattle.jr_expr_types.specs.SlotView.{shape_of}
use Rattle.jr_expr_types.specs.Slots.{Slot, last_slot, size_of, skip}

-- the ends in front of none, one, two of the last trees in front of an end, and so on
unfoldable pub skips : List Slot → (count end : ℕ) → List ℕ
skips slots zero end = []
skips slots (suc n) end = end ∷ skips slots n (end - size_of (last_slot slots end))

-- The node at a number has many parts: their ends stand where it says.
abbrev pub AreListed : List raw.Slot → (ends : List ℕ) → Type 0
AreListed slots ends = (n : ℕ) (s : raw.Slot) → slice_get slots n ≡ Some s → 16 < s.count
    → (k : ℕ) → k < s.count → slice_get ends (s.listed + k) ≡ Some (skip (map shape_of slots) k n)

-- what stood in a list stands there still
abbrev pub Keeps : (old new : List ℕ) → Type 0
Keeps old new = (k x : ℕ) → slice_get old k ≡ Some x → slice_get new k ≡ Some x
