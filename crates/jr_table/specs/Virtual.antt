-- Exact functions: methods that are neither private nor static.
use Rattle.std.specs.Prelude.{
  ◌≡◌,
  ◌≢◌,
  ℕ,
  List,
  Option,
  Some,
  None,
  Bool,
  ◌||◌,
  slice_get,
  option_and_then,
  if◌then◌else◌,
}
use Rattle.jr_table.specs.declared.entries.Entry.{Entry}
use Rattle.jr_table.specs.Chains.{IsSubclassAt}

abbrev pub if_virtual : Entry → Option Entry
if_virtual e = if e.is_private || e.is_static then None else Some e

abbrev pub virtual_entry : List Entry → ℕ → Option Entry
virtual_entry rows j = option_and_then if_virtual (slice_get rows j)

-- the name and parameter types of another, in a class below
pub record IsOver (rows : List Entry) (over under : Entry) : Type 0 where
  pub strict : over.class ≢ under.class
  pub named : over.name ≡ under.name
  pub takes : over.params ≡ under.params
  pub below : IsSubclassAt rows over.class under.class
