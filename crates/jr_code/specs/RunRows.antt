-- What runs need of a table's rows: `jr_runs: Rows` as a relation on rows. What isn't declared has
-- answers too, the same in every program, so that nothing is left free.
use Rattle.std.specs.Prelude.{
  ◌≡◌,
  ℕ,
  List,
  [],
  map,
  Option,
  Some,
  None,
  Bool,
  true,
  false,
  codes,
  IsTrue,
  ◌⊎◌,
  ◌↔◌,
  unwrap_or,
  option_and_then,
}
use Rattle.std.specs.List.{list_any}
use Rattle.jr_ast.specs.declared.operators.ModWord.{ModWord}
use Rattle.jr_ast.specs.declared.operators.ModWord.TheVariants as word
use Rattle.jr_runs.specs.Values as value
use Rattle.jr_runs.specs.Actions.{FieldKind, plain, volatile, final}
use Rattle.jr_runs.specs.Rows as core
use Rattle.jr_table.specs.Keys.{
  ClassKey,
  FieldKey,
  MethodKey,
  CtorKey,
  Ty,
  int,
  boolean,
  void,
  null,
  class,
}
use Rattle.jr_table.specs.Decls.{Decl, field_decl, method_decl, constructor_decl}
use Rattle.jr_table.specs.Rows.{Row}
use Rattle.jr_table.specs.Prelude.{top_key}
use Rattle.jr_table.specs.Entries.{IsRowOf}
use Rattle.jr_table.specs.Keyed.{IsSubclass, DispatchesTo}
use Rattle.jr_table.specs.Context.{is_final_word, IsStaticDecl, IsInstanceDecl}
use Rattle.jr_code.specs.RunKeys.{RunKeys}

abbrev pub is_volatile_word : ModWord → Bool
is_volatile_word word.Volatile = true
is_volatile_word _ = false

-- final with volatile is a fault of declarations (JLS 8.3.1.4)
abbrev pub kind_by : (is_final is_volatile : Bool) → FieldKind
kind_by true b = final
kind_by false true = volatile
kind_by false false = plain

abbrev pub kind_of_words : List ModWord → FieldKind
kind_of_words ws = kind_by (list_any is_final_word ws) (list_any is_volatile_word ws)

-- the type of values; `void` and the type of null have none
abbrev pub run_type : Ty → Option (value.Ty RunKeys)
run_type int = Some value.int_type
run_type boolean = Some value.boolean_type
run_type (class k) = Some (value.reference k)
run_type void = None
run_type null = None

-- of a field or parameter, which has one
abbrev pub held_type : Option (value.Ty RunKeys) → value.Ty RunKeys
held_type t = unwrap_or t value.int_type

abbrev pub param_type : Ty → value.Ty RunKeys
param_type t = held_type (run_type t)

abbrev pub HasRow : List Row → Decl → Type 0
HasRow rows d = (j : ℕ) × IsRowOf rows d j

pub record AreRunRows (rows : List Row) (R : core.Rows RunKeys) : Type 0 where
  pub same_class : (c d : ClassKey) → IsTrue (R.same_class c d) ↔ (c ≡ d)
  -- a class goes with itself, also one that isn't declared (JLS 4.10)
  pub is_subclass : (c d : ClassKey)
      → IsTrue (R.is_subclass c d) ↔ ((c ≡ d) ⊎ IsSubclass rows c d)
  pub text_class : R.text_class ≡ top_key (codes "String")
  pub class_class : R.class_class ≡ top_key (codes "Class")
  pub field_kind : (k : FieldKey) (j : ℕ) (i : IsRowOf rows (field_decl k) j)
      → R.field_kind k ≡ kind_of_words i.row.modifiers
  pub field_type : (k : FieldKey) (j : ℕ) (i : IsRowOf rows (field_decl k) j)
      → R.field_type k ≡ held_type (option_and_then run_type i.row.type)
  -- what is no field is told as a plain one of ints
  pub no_field : (k : FieldKey) → (HasRow rows (field_decl k) → ⊥)
      → (R.field_kind k ≡ plain) × (R.field_type k ≡ value.int_type)
  pub dispatch : (c : ClassKey) (m found : MethodKey)
      → (R.dispatch c m ≡ Some found) ↔ DispatchesTo rows c m found
  pub has_method : (m : MethodKey) → IsTrue (R.has_method m) ↔ HasRow rows (method_decl m)
  pub static : (m : MethodKey) → IsStaticDecl rows (method_decl m) → R.owner m ≡ None
  pub instance : (m : MethodKey) → IsInstanceDecl rows (method_decl m) → R.owner m ≡ Some m.class
  pub params : (m : MethodKey) → HasRow rows (method_decl m)
      → R.params m ≡ map param_type m.params
  pub result : (m : MethodKey) (j : ℕ) (i : IsRowOf rows (method_decl m) j)
      → R.result m ≡ option_and_then run_type i.row.type
  -- what is no method is told as a static one without parameters and result
  pub no_method : (m : MethodKey) → (HasRow rows (method_decl m) → ⊥)
      → (R.owner m ≡ None) × (R.params m ≡ []) × (R.result m ≡ None)
  pub has_constructor : (q : CtorKey)
      → IsTrue (R.has_constructor q) ↔ HasRow rows (constructor_decl q)
  pub constructor_class : (q : CtorKey) → R.constructor_class q ≡ q.class
  pub constructor_params : (q : CtorKey) → HasRow rows (constructor_decl q)
      → R.constructor_params q ≡ map param_type q.params
  -- and what is no constructor as one without parameters
  pub no_constructor : (q : CtorKey) → (HasRow rows (constructor_decl q) → ⊥)
      → R.constructor_params q ≡ []
