-- What is known of two programs at a place of a region, and what has become of declarations there.
use Rattle.std.proofs.Common.{◌≡◌, ℕ, List, Option, Some, None, refl, subst, ap, ◌∙◌}
use Rattle.std.specs.Prelude.{option_map}
use Rattle.jr_ast.specs.Tree as tree
use Rattle.jr_table.specs.Keys.{Ty}
use Rattle.jr_table.specs.Decls.{LocalKey, Decl, class_decl, field_decl, method_decl, constructor_decl, local_decl}
use Rattle.jr_table.specs.Rows.{Row}
use Rattle.jr_table.specs.Entries.{IsRowOf}
use Rattle.jr_table.specs.LookupLaws.{EachHasOne}
use Rattle.jr_table.specs.Context.{Context, IsTypeOf}
use Rattle.jr_table.specs.BindingLaws.{IsBound}
use Rattle.jr_spell.specs.Rebound.{SpellingsRebind, ClassesRebind, AreFronts}
use Rattle.jr_images.specs.Regions.{IsImageRow, AreImages, image_at, Region, AreTypesNow}
use Rattle.jr_kept_references.specs.InRegions.{rows_in, class_in, field_in, method_in, ctor_in, type_in, StandsFor, TellsTypes}

-- what the laws of lookup, binding and spelling give of the two programs, and the place
pub record RegionWorld (A : Type 0) (rows : List Row) (R : Region A) (c d : Context) : Type 0 where
  pub one_old : EachHasOne rows
  pub one_new : EachHasOne (rows_in R)
  pub old : IsBound A rows c
  pub new : IsBound A (rows_in R) d
  pub rebind : SpellingsRebind A
  pub classes : ClassesRebind A
  pub fronts : AreFronts A (rows_in R) d
  pub images : AreImages rows R.seen.images
  pub args : (at : Context) (es : tree.Exps A) (ts : List Ty) → AreTypesNow R at es ts (R.types_now at es ts)
  pub types : TellsTypes rows R
  pub stand : StandsFor R rows c d

module _ {A : Type 0} (rows : List Row) (R : Region A) (c d : Context) (w : RegionWorld A rows R c d) where
  row_type : (x z : Decl) (j : ℕ) (i : IsRowOf rows x j) (t : Ty) → i.row.type ≡ Some t → ((s : Row) → IsImageRow R.seen.images i.row s → s.decl ≡ z)
      → (n : ℕ) × (q : IsRowOf (rows_in R) z n) × (q.row.type ≡ Some (type_in R t))
  row_type x z j i t type declares =
      let image = w.images.images i.row j i.stands in
      (image.0, record { row = image.1; stands = image.2; declares = declares image.1 image.3 }, image.3.type ∙ ap (option_map (type_in R)) type)

  -- the type of a declaration goes to its image, where the declaration isn't gone
  pub decl_type_goes : (x u : Decl) (t : Ty) → image_at R.seen c x ≡ Some u → IsTypeOf rows c x t → IsTypeOf (rows_in R) d u (type_in R t)
  decl_type_goes (local_decl k) u t image h = by (R.seen.local_to c k) refl image
    where
      by : (o : Option LocalKey) → R.seen.local_to c k ≡ o → option_map (λ (l : LocalKey). local_decl l) o ≡ Some u → IsTypeOf (rows_in R) d u (type_in R t)
      by None is e = absurd cc
      by (Some m) is e = (let p : local_decl m ≡ u = cc in subst (λ (z : Decl). IsTypeOf (rows_in R) d z (type_in R t)) p (w.stand.local_types k m t is h))
  decl_type_goes (class_decl k) u t image (j, i, type) =
      let p : class_decl (class_in R k) ≡ u = cc in
      subst (λ (z : Decl). IsTypeOf (rows_in R) d z (type_in R t)) p (row_type (class_decl k) (class_decl (class_in R k)) j i t type (λ s h. h.of_class k i.declares))
  decl_type_goes (field_decl k) u t image (j, i, type) =
      let p : field_decl (field_in R k) ≡ u = cc in
      subst (λ (z : Decl). IsTypeOf (rows_in R) d z (type_in R t)) p (row_type (field_decl k) (field_decl (field_in R k)) j i t type (λ s h. h.of_field k i.declares))
  decl_type_goes (method_decl k) u t image (j, i, type) =
      let p : method_decl (method_in R k) ≡ u = cc in
      subst (λ (z : Decl). IsTypeOf (rows_in R) d z (type_in R t)) p (row_type (method_decl k) (method_decl (method_in R k)) j i t type (λ s h. h.of_method k i.declares))
  decl_type_goes (constructor_decl k) u t image (j, i, type) =
      let p : constructor_decl (ctor_in R k) ≡ u = cc in
      subst (λ (z : Decl). IsTypeOf (rows_in R) d z (type_in R t)) p (row_type (constructor_decl k) (constructor_decl (ctor_in R k)) j i t type (λ s h. h.of_constructor k i.declares))
