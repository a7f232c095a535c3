-- Trees in one list of slots, each node behind its parts; and how a path is walked there: exact.
use Rattle.std.specs.Prelude.{
  ℕ,
  zero,
  suc,
  ◌-◌,
  List,
  [],
  ◌∷◌,
  length,
  Option,
  Some,
  None,
  option_and_then,
  nat_lt,
  slice_get,
  if◌then◌else◌,
}
use Rattle.jr_table.specs.Keys.{Ty}

-- a node: how many slots it takes with all that stands in it, how many parts it has, its type
pub record Slot : Type 0 where
  pub size : ℕ
  pub count : ℕ
  pub type : Option Ty

-- the slot in front of an end
abbrev pub last_slot : {S : Type 0} → List S → (end : ℕ) → Option S
last_slot slots zero = None
last_slot slots (suc n) = slice_get slots n

abbrev pub size_of : Option Slot → ℕ
size_of None = 0
size_of (Some s) = s.size

-- the end in front of so many trees
unfoldable pub skip : List Slot → (count end : ℕ) → ℕ
skip slots zero end = end
skip slots (suc n) end = skip slots n (end - size_of (last_slot slots end))

-- the end of a part of a node: the parts behind it are passed over
abbrev pub part_end : List Slot → Option Slot → (step end : ℕ) → Option ℕ
part_end slots None step end = None
part_end slots (Some s) step end =
    if nat_lt step s.count then Some (skip slots (s.count - 1 - step) (end - 1)) else None

unfoldable pub find : List Slot → (end : ℕ) → List ℕ → Option Ty
find slots end [] = option_and_then (λ (s : Slot). s.type) (last_slot slots end)
find slots end (i ∷ is) =
    option_and_then (λ e. find slots e is) (part_end slots (last_slot slots end) i end)

-- the type to which a path leads from the last tree
unfoldable pub find_type : List Slot → List ℕ → Option Ty
find_type slots path = find slots (length slots) path
