-- When a name that is looked up one way and asked the other finds a row in the old program, and in
-- the new one the image of what it declares, which has that name.
use Rattle.std.specs.Prelude.{◌≡◌, ℕ, List, [], length, Some, false}
use Rattle.std.specs.List.{position_or_len}
use Rattle.jr_table.specs.Keys.{ClassKey, FieldKey, MethodKey, CtorKey, Ty}
use Rattle.jr_table.specs.Decls.{
  Decl,
  class_decl,
  field_decl,
  method_decl,
  constructor_decl,
}
use Rattle.jr_table.specs.Rows.{Row}
use Rattle.jr_table.specs.Found.{Found, one}
use Rattle.jr_table.specs.Scope.{Scope}
use Rattle.jr_table.specs.Lookup.{decl_at}
use Rattle.jr_table.specs.Context.{IsStaticDecl, IsInstanceDecl}
use Rattle.jr_lookup.specs.ScopeView.{scope_of}
use Rattle.jr_spell.specs.Binds.{is_dot}
use Rattle.jr_images.specs.Words.{class_name}
use Rattle.jr_new_words.specs.declared.scopes.Scopes as raw
use Rattle.jr_new_words.specs.Mappings.{BecomesAt}
use Rattle.jr_new_words.specs.MappingView.{keys_of}
use Rattle.jr_new_words.specs.Ways.{
  Way,
  local,
  own_field,
  field_on,
  field_on_none,
  field_through,
  field_above,
  method_named,
  method_on,
  method_on_none,
  method_through,
  method_above,
  ctor_of,
  ctor_above,
  type_named,
  type_behind,
  is_simple,
  Finds,
}

-- what row j declares has the property of what is found
abbrev pub FindsAt : List Row → (Found → Type 0) → ℕ → Type 0
FindsAt rows Finds j = (d : Decl) → decl_at rows j ≡ Some d → Finds (one d)

-- the same of what is found a way, with and without locals
abbrev pub FindsBy : List Row → Scope → Way → (name : List ℕ) → List Ty → ℕ → Type 0
FindsBy rows s w name ts j = (is_simple w ≡ false) × FindsAt rows (Finds rows s w name ts) j

-- ---- declarations of a name

abbrev pub IsField : (name : List ℕ) → Decl → Type 0
IsField name d = (k : FieldKey) × (d ≡ field_decl k) × (k.name ≡ name)

abbrev pub IsMethod : (name : List ℕ) → Decl → Type 0
IsMethod name d = (k : MethodKey) × (d ≡ method_decl k) × (k.name ≡ name)

-- a class, whose name is one word
abbrev pub IsClass : (name : List ℕ) → Decl → Type 0
IsClass name d = (k : ClassKey) × (d ≡ class_decl k) × (k.name ≡ name)
    × (position_or_len is_dot name ≡ length name)

-- a constructor, which is asked without a name
abbrev pub IsCtor : (name : List ℕ) → Decl → Type 0
IsCtor name d = (k : CtorKey) × (d ≡ constructor_decl k) × (name ≡ [])

-- a declaration of the name that can be asked this way
abbrev pub Serves : List Row → Way → (name : List ℕ) → Decl → Type 0
Serves rows local name d = ⊥
Serves rows own_field name d = ⊥
Serves rows (field_on k) name d = IsField name d × (IsStaticDecl rows d → ⊥)
Serves rows (field_through w k) name d =
    (w ≡ class_name k) × IsField name d × (IsInstanceDecl rows d → ⊥)
Serves rows (field_on_none t) name d = ⊥
Serves rows field_above name d = ⊥
Serves rows method_named name d = IsMethod name d
Serves rows (method_on k) name d = IsMethod name d × (IsStaticDecl rows d → ⊥)
Serves rows (method_through w k) name d =
    (w ≡ class_name k) × IsMethod name d × (IsInstanceDecl rows d → ⊥)
Serves rows (method_on_none t) name d = ⊥
Serves rows method_above name d = ⊥
Serves rows (ctor_of k) name d = IsCtor name d
Serves rows ctor_above name d = ⊥
Serves rows type_named name d = IsClass name d
Serves rows (type_behind outer) name d = ⊥

-- a row that does so
abbrev pub ServesAt : List Row → Way → (name : List ℕ) → ℕ → Type 0
ServesAt rows w name j = (d : Decl) × (decl_at rows j ≡ Some d) × Serves rows w name d

-- the image of what the row declares is found in the new program, and has the name
pub record FindsImage (s : raw.Scopes) (to : Way) (images : List Ty) (name : List ℕ) (number : ℕ)
    : Type 0 where
  pub image : ℕ
  pub after : FindsBy s.programs.after.now (scope_of s.after) to name images image
  pub becomes : BecomesAt (keys_of s.programs.keys) s.programs.before.now s.programs.after.now
      number image
  pub serves : ServesAt s.programs.after.now to name image

pub record StaysBy (s : raw.Scopes) (from : Way) (types : List Ty) (to : Way) (images : List Ty)
    (name : List ℕ) : Type 0 where
  pub number : ℕ
  pub before : FindsBy s.programs.before.now (scope_of s.before) from name types number
  pub there : FindsImage s to images name number
