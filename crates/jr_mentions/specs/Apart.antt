-- Rows that are the same but for the names of some fields and methods.
use Rattle.std.specs.Prelude.{◌≡◌, ℕ, List, Bool, true, false, ◌⊎◌}
use Rattle.std.specs.List.{AllZip, list_any}
use Rattle.std.specs.Str.{bytes_eq}
use Rattle.jr_table.specs.Keys.{FieldKey, MethodKey}
use Rattle.jr_table.specs.Decls.{
  MemberKey,
  head,
  field,
  method,
  constructor,
  Decl,
  class_decl,
  field_decl,
  method_decl,
  constructor_decl,
  local_decl,
}
use Rattle.jr_table.specs.Rows.{Row}

abbrev pub is_among : (names : List (List ℕ)) → (name : List ℕ) → Bool
is_among names name = list_any (λ n. bytes_eq n name) names

-- it is none of the names
abbrev pub IsOther : (names : List (List ℕ)) → (name : List ℕ) → Type 0
IsOther names name = is_among names name ≡ false

module _ (names : List (List ℕ)) where
  -- two names, both of these
  abbrev pub AreAmong : (old new : List ℕ) → Type 0
  AreAmong old new = (is_among names old ≡ true) × (is_among names new ≡ true)

  -- a field, or a method, that has another name
  pub record FieldsApart (j k : FieldKey) : Type 0 where
    pub class : j.class ≡ k.class
    pub named : AreAmong j.name k.name

  pub record MethodsApart (j k : MethodKey) : Type 0 where
    pub class : j.class ≡ k.class
    pub params : j.params ≡ k.params
    pub named : AreAmong j.name k.name

  abbrev pub DeclsApart : Decl → Decl → Type 0
  DeclsApart (field_decl j) (field_decl k) = FieldsApart j k
  DeclsApart (method_decl j) (method_decl k) = MethodsApart j k
  DeclsApart _ _ = ⊥

  pub record RowApart (r s : Row) : Type 0 where
    pub decl : (r.decl ≡ s.decl) ⊎ DeclsApart r.decl s.decl
    pub modifiers : r.modifiers ≡ s.modifiers
    pub type : r.type ≡ s.type
    pub parent : r.parent ≡ s.parent
    pub has_init : r.has_init ≡ s.has_init

  abbrev pub AreApart : List Row → List Row → Type 0
  AreApart rows after = AllZip RowApart rows after

  -- no field and no method of one of the names
  abbrev pub IsClean : Decl → Type 0
  IsClean (class_decl k) = Unit {0}
  IsClean (field_decl k) = IsOther names k.name
  IsClean (method_decl k) = IsOther names k.name
  IsClean (constructor_decl k) = Unit {0}
  IsClean (local_decl k) = Unit {0}

  -- the same of what a member declares
  abbrev pub IsCleanMember : MemberKey → Type 0
  IsCleanMember (head k) = Unit {0}
  IsCleanMember (field k) = IsOther names k.name
  IsCleanMember (method k) = IsOther names k.name
  IsCleanMember (constructor k) = Unit {0}
