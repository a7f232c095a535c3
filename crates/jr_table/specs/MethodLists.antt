-- All member methods of a name (JLS 8.4.8).
use Rattle.std.specs.Prelude.{◌≡◌, ℕ, suc, ◌≤◌, List, [], ◌∷◌, Option, Some, ◌⊎◌, ◌↔◌}
use Rattle.jr_table.specs.Keys.{ClassKey, MethodKey}
use Rattle.jr_table.specs.Decls.{method_decl}
use Rattle.jr_table.specs.Rows.{Row}
use Rattle.jr_table.specs.Entries.{IsRowOf}
use Rattle.jr_table.specs.Keyed.{HasMethod}

abbrev pub Among : List MethodKey → MethodKey → Type 0
Among [] m = ⊥
Among (k ∷ ks) m = (k ≡ m) ⊎ Among ks m

-- The rows of these methods stand one behind the other, the first at this number or behind it.
abbrev pub StandInOrder : List Row → ℕ → List MethodKey → Type 0
StandInOrder rows from [] = Unit {0}
StandInOrder rows from (k ∷ ks) =
    (j : ℕ) × (from ≤ j) × IsRowOf rows (method_decl k) j × StandInOrder rows (suc j) ks

-- exactly the class's member methods of the name, each once, in the order of the rows
pub record AreMethods (rows : List Row) (of : ClassKey) (name : List ℕ)
    (keys : List MethodKey) : Type 0 where
  pub in_order : StandInOrder rows 0 keys
  pub exact : (m : MethodKey) → Among keys m ↔ (HasMethod rows of m × (m.name ≡ name))
