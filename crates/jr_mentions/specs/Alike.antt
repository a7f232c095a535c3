-- Rows of which what isn't named by these names is asked with the same answer.
use Rattle.std.specs.Prelude.{◌≡◌, ℕ, List, Option, option_map, Bool}
use Rattle.jr_ast.specs.declared.operators.ModWord.{ModWord}
use Rattle.jr_table.specs.Keys.{ClassKey, MethodKey, Ty}
use Rattle.jr_table.specs.Decls.{Decl}
use Rattle.jr_table.specs.Rows.{Row}
use Rattle.jr_table.specs.Entries.{number_of}
use Rattle.jr_table.specs.Found.{Found, one, nothing, many, not_accessible, from_static}
use Rattle.jr_table.specs.Scope.{Scope}
use Rattle.jr_table.specs.Lookup.{
  find_variable,
  find_type_named,
  find_type_of,
  find_field_in,
  find_method_named,
  find_method_of,
  find_ctor_of,
}
use Rattle.jr_table.specs.Meanings.{row_of}
use Rattle.jr_table.specs.Notes.{is_below}
use Rattle.jr_table.specs.HeadNotes.{overrides_badly}
use Rattle.jr_mentions.specs.Apart.{IsOther, IsClean}

-- what a row tells besides what it declares
pub record Told : Type 0 where
  pub modifiers : List ModWord
  pub type : Option Ty
  pub parent : Option ClassKey
  pub has_init : Bool

abbrev pub told : Row → Told
told r = record {
  modifiers = r.modifiers;
  type = r.type;
  parent = r.parent;
  has_init = r.has_init;
}

abbrev pub IsCleanFound : (names : List (List ℕ)) → Found → Type 0
IsCleanFound names (one d) = IsClean names d
IsCleanFound names nothing = Unit {0}
IsCleanFound names (many d e) = IsClean names d × IsClean names e
IsCleanFound names (not_accessible d) = IsClean names d
IsCleanFound names (from_static d) = IsClean names d

-- both find this for a name that is none of these, and it has none of them
pub record Finds (names : List (List ℕ)) (f g : Found) : Type 0 where
  pub same : f ≡ g
  pub clean : IsCleanFound names f

pub record LookAlike (names : List (List ℕ)) (rows after : List Row) : Type 0 where
  pub variable : (s : Scope) (name : List ℕ) → IsOther names name
      → Finds names (find_variable rows s name) (find_variable after s name)
  pub field_in : (s : Scope) (of : ClassKey) (name : List ℕ) → IsOther names name
      → Finds names (find_field_in rows s of name) (find_field_in after s of name)
  pub method_named : (s : Scope) (name : List ℕ) (args : List Ty) → IsOther names name
      → Finds names (find_method_named rows s name args) (find_method_named after s name args)
  pub method_of : (s : Scope) (of : ClassKey) (name : List ℕ) (args : List Ty)
      → IsOther names name
      → Finds names (find_method_of rows s of name args) (find_method_of after s of name args)
  -- classes and constructors have none of them
  pub ctor_of : (s : Scope) (of : ClassKey) (args : List Ty)
      → Finds names (find_ctor_of rows s of args) (find_ctor_of after s of args)
  pub type_named : (s : Scope) (name : List ℕ)
      → find_type_named rows s name ≡ find_type_named after s name
  pub type_of : (s : Scope) (of : ClassKey) (name : List ℕ)
      → find_type_of rows s of name ≡ find_type_of after s of name
  -- of a declaration that has none of them
  pub number : (d : Decl) → IsClean names d → number_of rows d ≡ number_of after d
  pub row : (d : Decl) → IsClean names d
      → option_map told (row_of rows d) ≡ option_map told (row_of after d)
  pub below : (c d : Option ℕ) → is_below rows c d ≡ is_below after c d
  pub overrides : (k : MethodKey) → IsOther names k.name
      → overrides_badly rows k ≡ overrides_badly after k
