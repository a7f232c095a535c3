-- Trees of types: a node for each node of a member, with the type of an expression that has one.
use Rattle.std.specs.Prelude.{
  ◌≡◌,
  ℕ,
  suc,
  ◌==◌,
  List,
  [],
  ◌∷◌,
  ◌++◌,
  length,
  Option,
  Some,
  None,
  option_and_then,
  if◌then◌else◌,
}
use Rattle.jr_table.specs.Keys.{Ty}
use Rattle.jr_expr_types.specs.Slots.{Slot, find_type}

-- the last part of a node stands outermost
mutual
  pub data Tree : Type 0 where
    node : (type : Option Ty) (parts : Parts) → Tree

  pub data Parts : Type 0 where
    none : Parts
    put : (before : Parts) (last : Tree) → Parts

abbrev pub count : Parts → ℕ
count none = 0
count (put ps t) = suc (count ps)

-- the part of a number, from 0
abbrev pub part_at : Parts → ℕ → Option Tree
part_at none i = None
part_at (put ps t) i = if i == count ps then Some t else part_at ps i

abbrev pub type_of : Tree → Option Ty
type_of (node t ps) = t

abbrev pub parts_of : Tree → Parts
parts_of (node t ps) = ps

-- the type of the node to which a path leads
unfoldable pub type_at : Tree → List ℕ → Option Ty
type_at t [] = type_of t
type_at t (i ∷ is) = option_and_then (λ c. type_at c is) (part_at (parts_of t) i)

-- its slots: those of its parts, and then its own
unfoldable mutual
  pub flat : Tree → List Slot
  flat (node t ps) =
      flats ps ++ record { size = suc (length (flats ps)); count = count ps; type = t } ∷ []

  pub flats : Parts → List Slot
  flats none = []
  flats (put ps t) = flats ps ++ flat t

-- what is found in the slots of a tree by a path is the type of the node to which it leads
abbrev pub PathsLeadToTypes : Type 0
PathsLeadToTypes = (t : Tree) (path : List ℕ) → find_type (flat t) path ≡ type_at t path
