-- What a map of keys owes to a region's images, and these to the two programs.
use Rattle.std.specs.Prelude.{◌≡◌, ◌↔◌, ℕ, List, IsTrue}
use Rattle.jr_ast.specs.Tree as tree
use Rattle.jr_runs.specs.KeyMaps.{KeyMap}
use Rattle.jr_runs.specs.Rows as core
use Rattle.jr_table.specs.Keys.{ClassKey, FieldKey, MethodKey, CtorKey, Ty}
use Rattle.jr_table.specs.Decls.{class_decl, field_decl, method_decl, constructor_decl}
use Rattle.jr_table.specs.Rows.{Row}
use Rattle.jr_table.specs.Entries.{IsRowOf}
use Rattle.jr_table.specs.Keyed.{IsAssignable}
use Rattle.jr_table.specs.Context.{Context, IsStaticDecl, IsInstanceDecl}
use Rattle.jr_table.specs.Binding.{HasType}
use Rattle.jr_images.specs.Regions.{Images, Region}
use Rattle.jr_kept_references.specs.InRegions.{rows_in, field_in, method_in, type_in}
use Rattle.jr_code.specs.RunKeys.{RunKeys}
use Rattle.jr_image_code.specs.KnownPlaces.{IsKnown}

-- what becomes of keys
abbrev pub keys_by : Images → KeyMap RunKeys
keys_by m = record {
  class = m.class_to;
  field = m.field_to;
  method = m.method_to;
  constructor = m.ctor_to;
}

-- one map is another on what has a row
pub record MapsAs (r to : KeyMap RunKeys) (rows : List Row) : Type 0 where
  pub class : (k : ClassKey) (j : ℕ) → IsRowOf rows (class_decl k) j → r.class k ≡ to.class k
  pub field : (k : FieldKey) (j : ℕ) → IsRowOf rows (field_decl k) j → r.field k ≡ to.field k
  pub method : (k : MethodKey) (j : ℕ) → IsRowOf rows (method_decl k) j
      → r.method k ≡ to.method k
  pub constructor : (k : CtorKey) (j : ℕ) → IsRowOf rows (constructor_decl k) j
      → r.constructor k ≡ to.constructor k

-- what has a row is declared
pub record AreDeclared (rows : List Row) (R : core.Rows RunKeys) : Type 0 where
  pub method : (k : MethodKey) (j : ℕ) → IsRowOf rows (method_decl k) j → IsTrue (R.has_method k)
  pub constructor : (k : CtorKey) (j : ℕ) → IsRowOf rows (constructor_decl k) j
      → IsTrue (R.has_constructor k)

-- images of static fields and methods are static, and those of others aren't (a region leaves
-- modifiers free)
pub record WordsStay (old : List Row) (m : Images) : Type 0 where
  pub static_field : (k : FieldKey) → IsStaticDecl old (field_decl k)
      → IsStaticDecl m.rows (field_decl (m.field_to k))
  pub instance_field : (k : FieldKey) → IsInstanceDecl old (field_decl k)
      → IsInstanceDecl m.rows (field_decl (m.field_to k))
  pub static_method : (k : MethodKey) → IsStaticDecl old (method_decl k)
      → IsStaticDecl m.rows (method_decl (m.method_to k))
  pub instance_method : (k : MethodKey) → IsInstanceDecl old (method_decl k)
      → IsInstanceDecl m.rows (method_decl (m.method_to k))

-- A cast that can't fail is dropped (JLS 5.5.1): of each expression at the place what it was
-- assignable to, by the type that it had, has an image to which it is, by the type that the region
-- tells; and nothing else has. A rename shows it; of any region less is asked (`CodedSpots:
-- CastsCoded`).
abbrev pub CastsStay : {A : Type 0} → List Row → Region A → Context → Type 0
CastsStay {A} rows R c = (e : tree.Exp A) (t u : Ty) → HasType rows c e t → IsKnown rows u
    → IsAssignable rows t u
    ↔ IsAssignable (rows_in R) (R.type_now c e t) (type_in R u)
