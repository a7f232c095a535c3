-- When a simple name finds the same variable in both programs, which has that name in both.
use Rattle.std.specs.Prelude.{◌≡◌, ℕ, List, [], Some, None}
use Rattle.jr_table.specs.Keys.{FieldKey}
use Rattle.jr_table.specs.Decls.{Decl, field_decl, local_decl}
use Rattle.jr_table.specs.Rows.{Row}
use Rattle.jr_table.specs.Found.{one}
use Rattle.jr_table.specs.Scope.{Scope}
use Rattle.jr_table.specs.Lookup.{FindsVariable, decl_at}
use Rattle.jr_lookup.specs.ScopeView.{scope_of}
use Rattle.jr_scopes.specs.Helds.{key_of, last_number}
use Rattle.jr_scopes.specs.Tracked.{helds_of}
use Rattle.jr_new_words.specs.declared.scopes.Scopes as raw
use Rattle.jr_new_words.specs.Mappings.{BecomesAt, number_by, name_to}
use Rattle.jr_new_words.specs.MappingView.{keys_of}
use Rattle.jr_new_words.specs.Scopes.{mapping_of, member_of}

abbrev pub without_locals : Scope → Scope
without_locals s = record { class = s.class; is_static = s.is_static; locals = [] }

-- the name finds what row j declares, where no local has the name
abbrev pub FindsRow : List Row → Scope → (name : List ℕ) → ℕ → Type 0
FindsRow rows s name j =
    (d : Decl) → decl_at rows j ≡ Some d → FindsVariable rows (without_locals s) name (one d)

-- both rows declare the same
abbrev pub DeclareOne : (old new : List Row) → (before after : ℕ) → Type 0
DeclareOne old new i j =
    (d : Decl) × (decl_at old i ≡ Some d) × (decl_at new j ≡ Some d)

-- row j declares a field of the name
abbrev pub DeclaresField : List Row → (name : List ℕ) → ℕ → Type 0
DeclaresField rows name j =
    (k : FieldKey) × (decl_at rows j ≡ Some (field_decl k)) × (k.name ≡ name)

-- the image of the local of this number is found by the name in the new program
abbrev pub FindsLocal : raw.Scopes → (name : List ℕ) → (number : ℕ) → Type 0
FindsLocal s name number = (to : ℕ) × (number_by (mapping_of s).locals number ≡ Some to)
    × (last_number name (helds_of s.renamed) ≡ Some to)

-- and has the name
pub record LocalStays (s : raw.Scopes) (name : List ℕ) (number : ℕ) : Type 0 where
  pub to : ℕ
  pub kept : number_by (mapping_of s).locals number ≡ Some to
  pub keeps : name_to (mapping_of s) (local_decl (key_of (member_of s) number)) name ≡ name
  pub image : last_number name (helds_of s.renamed) ≡ Some to

-- a field and its image are found in both programs, and the image has the name
pub record FieldStays (s : raw.Scopes) (name : List ℕ) : Type 0 where
  pub no_image : last_number name (helds_of s.renamed) ≡ None
  pub number : ℕ
  pub image : ℕ
  pub before : FindsRow s.programs.before.now (scope_of s.before) name number
  pub after : FindsRow s.programs.after.now (scope_of s.after) name image
  pub becomes : BecomesAt (keys_of s.programs.keys) s.programs.before.now s.programs.after.now
      number image
  pub declares : DeclaresField s.programs.after.now name image
