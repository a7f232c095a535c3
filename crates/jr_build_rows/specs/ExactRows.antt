-- The rows of a program, by what is known of its classes: exact.
use Rattle.std.specs.Prelude.{
  ℕ,
  List,
  [],
  ◌∷◌,
  ◌++◌,
  Option,
  Some,
  None,
  Bool,
  true,
  false,
  filter,
  is_some,
  unwrap_or,
}
use Rattle.jr_table.specs.Keys.{ClassKey, Ty, void}
use Rattle.jr_table.specs.Decls.{class_decl, field_decl, method_decl, constructor_decl}
use Rattle.jr_table.specs.Rows.{Row}
use Rattle.jr_table.specs.DeclaredItems.{
  Written,
  DeclaredParam,
  DeclaredClass,
  DeclaredField,
  DeclaredMethod,
  DeclaredCtor,
  Item,
  class_item,
  field_item,
  method_item,
  ctor_item,
  DeclaredItem,
}
use Rattle.jr_table.specs.ProgramRows.{is_access}
use Rattle.jr_build_hierarchy.specs.Hierarchies.{Hierarchy, meaning, parent_key}
use Rattle.jr_build_rows.specs.Signatures.{meanings}

-- the constructor that isn't written
abbrev pub unwritten : DeclaredClass → Row
unwritten c = record {
  decl = constructor_decl (record { class = c.key; params = [] });
  modifiers = filter is_access c.modifiers;
  type = None;
  parent = None;
  has_init = false;
}

module _ (h : Hierarchy) where
  -- none, where one of them means nothing
  abbrev pub param_types : ClassKey → List DeclaredParam → List Ty
  param_types k ps = unwrap_or (meanings h k ps) []

  abbrev pub result_type : ClassKey → Option Written → Option Ty
  result_type k None = Some void
  result_type k (Some w) = meaning h k w

  abbrev pub class_row : DeclaredClass → Row
  class_row c = record {
    decl = class_decl c.key;
    modifiers = c.modifiers;
    type = None;
    parent = parent_key h c.key;
    has_init = false;
  }

  abbrev pub field_row : DeclaredField → Row
  field_row f = record {
    decl = field_decl (record { class = f.of; name = f.name });
    modifiers = f.modifiers;
    type = meaning h f.of f.type;
    parent = None;
    has_init = is_some f.init;
  }

  abbrev pub method_row : DeclaredMethod → Row
  method_row m = record {
    decl = method_decl (record
        { class = m.of; name = m.name; params = param_types m.of m.params });
    modifiers = m.modifiers;
    type = result_type m.of m.result;
    parent = None;
    has_init = false;
  }

  abbrev pub ctor_row : DeclaredCtor → Row
  ctor_row c = record {
    decl = constructor_decl (record { class = c.of; params = param_types c.of c.params });
    modifiers = c.modifiers;
    type = None;
    parent = None;
    has_init = false;
  }

  abbrev pub class_rows : DeclaredClass → Bool → List Row
  class_rows c true = class_row c ∷ []
  class_rows c false = class_row c ∷ unwritten c ∷ []

  abbrev pub rows_of_item : Item → List Row
  rows_of_item (class_item c) = class_rows c c.has_ctor
  rows_of_item (field_item f) = field_row f ∷ []
  rows_of_item (method_item m) = method_row m ∷ []
  rows_of_item (ctor_item c) = ctor_row c ∷ []

  abbrev pub rows_of_declarations : List DeclaredItem → List Row
  rows_of_declarations [] = []
  rows_of_declarations (s ∷ ss) = rows_of_item s.item ++ rows_of_declarations ss
