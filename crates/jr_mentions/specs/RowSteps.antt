-- One step of a walk over two tables side by side: names become more names.
use Rattle.std.specs.Prelude.{◌≡◌, ℕ, List}
use Rattle.jr_table.specs.Keys.{FieldKey, MethodKey}
use Rattle.jr_table.specs.Decls.{Decl}
use Rattle.jr_table.specs.Rows.{Row}
use Rattle.jr_mentions.specs.Apart.{FieldsApart, MethodsApart, DeclsApart, RowApart}
use Rattle.jr_mentions.specs.ApartView.{AreWithin}

-- the same of all but what is declared
pub record IsSameRest (r s : Row) : Type 0 where
  pub modifiers : r.modifiers ≡ s.modifiers
  pub type : r.type ≡ s.type
  pub parent : r.parent ≡ s.parent
  pub has_init : r.has_init ≡ s.has_init

module _ (names others : List (List ℕ)) where
  abbrev pub FieldStep : FieldKey → FieldKey → Type 0
  FieldStep j k = AreWithin names others × FieldsApart others j k

  abbrev pub MethodStep : MethodKey → MethodKey → Type 0
  MethodStep j k = AreWithin names others × MethodsApart others j k

  abbrev pub DeclStep : Decl → Decl → Type 0
  DeclStep d e = AreWithin names others × DeclsApart others d e

  abbrev pub RowStep : Row → Row → Type 0
  RowStep r s = AreWithin names others × RowApart others r s
