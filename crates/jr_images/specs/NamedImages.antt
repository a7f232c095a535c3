-- Names of images are identifiers (JLS 3.8).
use Rattle.std.specs.Prelude.{◌≡◌, ℕ, List, false}
use Rattle.jr_lex.specs.Replacing.{IsName}
use Rattle.jr_table.specs.Keys.{ClassKey, FieldKey, MethodKey}
use Rattle.jr_table.specs.Decls.{Decl, class_decl, field_decl, method_decl}
use Rattle.jr_table.specs.SameKeys.{same_name}
use Rattle.jr_table.specs.Rows.{Row}
use Rattle.jr_table.specs.Entries.{IsRowOf}
use Rattle.jr_images.specs.Regions.{Images}
use Rattle.jr_images.specs.TextLaws.{IsNamedClass}

-- Of each declaration of the old rows; and where a declared name becomes another, that is one.
pub record AreNamedImages (old : List Row) (m : Images) : Type 0 where
  pub class : (k : ClassKey) (j : ℕ) → IsRowOf old (class_decl k) j → IsNamedClass (m.class_to k)
  pub field : (k : FieldKey) (j : ℕ) → IsRowOf old (field_decl k) j
      → IsNamedClass (m.field_to k).class × IsName (m.field_to k).name
  pub method : (k : MethodKey) (j : ℕ) → IsRowOf old (method_decl k) j
      → IsNamedClass (m.method_to k).class × IsName (m.method_to k).name
  pub declared : (d : Decl) (name : List ℕ) → same_name name (m.name_to d name) ≡ false
      → IsName (m.name_to d name)
