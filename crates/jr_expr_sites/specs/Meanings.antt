-- What a name means to sites: a local, a field, a class, or nothing.
use Rattle.std.specs.Prelude.{
  ℕ,
  Bool,
  true,
  false,
  List,
  Option,
  Some,
  None,
  slice_get,
  unwrap_or,
  option_map,
  option_and_then,
}
use Rattle.std.specs.List.{list_any}
use Rattle.jr_runs.specs.Actions.{FieldKind, plain}
use Rattle.jr_cover.specs.Facts as facts
use Rattle.jr_cover.specs.Facts.{Variable}
use Rattle.jr_table.specs.Keys.{FieldKey}
use Rattle.jr_table.specs.Decls.{
  Decl,
  class_decl,
  field_decl,
  method_decl,
  constructor_decl,
  local_decl,
}
use Rattle.jr_table.specs.Rows.{Row}
use Rattle.jr_table.specs.Entries.{number_of, is_static_word}
use Rattle.jr_code.specs.RunKeys.{RunKeys}
use Rattle.jr_code.specs.RunRows.{kind_of_words}

pub data Meaning : Type 0 where
  local : (number : ℕ) → Meaning
  field : (key : FieldKey) → Meaning
  class : Meaning
  nothing : Meaning

abbrev pub meaning_of : Option Decl → Meaning
meaning_of None = nothing
meaning_of (Some (class_decl k)) = class
meaning_of (Some (field_decl k)) = field k
meaning_of (Some (method_decl k)) = nothing
meaning_of (Some (constructor_decl k)) = nothing
meaning_of (Some (local_decl k)) = local k.number

abbrev pub is_class : Meaning → Bool
is_class (local n) = false
is_class (field k) = false
is_class class = true
is_class nothing = false

-- the row that declares a field, if there is one
abbrev pub row_of : List Row → FieldKey → Option Row
row_of rows k = option_and_then (λ j. slice_get rows j) (number_of rows (field_decl k))

abbrev pub is_static_field : List Row → FieldKey → Bool
is_static_field rows k =
    unwrap_or (option_map (λ (r : Row). list_any is_static_word r.modifiers) (row_of rows k)) false

-- volatile, final or plain; what has no row is plain
abbrev pub field_kind : List Row → FieldKey → FieldKind
field_kind rows k =
    unwrap_or (option_map (λ (r : Row). kind_of_words r.modifiers) (row_of rows k)) plain

abbrev pub field_variable : (is_static : Bool) → FieldKey → Variable RunKeys
field_variable true k = facts.is_static_field k
field_variable false k = facts.is_instance_field k

abbrev pub variable_of : List Row → Meaning → Option (Variable RunKeys)
variable_of rows (local n) = Some (facts.is_local n)
variable_of rows (field k) = Some (field_variable (is_static_field rows k) k)
variable_of rows class = None
variable_of rows nothing = None
