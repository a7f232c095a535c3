-- Where no dispatch changes, it goes to the images.
use Rattle.std.proofs.Common.{◌≡◌, List, Bool, true, false, refl, subst, sym, ◌∙◌}
use Rattle.jr_table.specs.Keys.{ClassKey, MethodKey}
use Rattle.jr_table.specs.SameKeys.{same_method, method_decides}
use Rattle.jr_table.specs.Decls.{class_decl, method_decl}
use Rattle.jr_table.specs.Rows.{Row}
use Rattle.jr_table.specs.Entries.{entries_of}
use Rattle.jr_table.specs.Conditions.{AreRows}
use Rattle.jr_table.specs.Keyed.{DispatchesTo}
use Rattle.jr_images.specs.Images.{Renaming, class_to, method_to, rows_to}
use Rattle.jr_images.specs.Regions.{images_of}
use Rattle.jr_plan.specs.Reasons.{ChangesDispatch}
use Rattle.jr_dispatch.specs.Kept.{DispatchIsKept}
use Rattle.jr_dispatch.proofs.ImageEntries.{row_goes}
use Rattle.jr_dispatch.proofs.KeyedChanges.{programs, found}
use Rattle.jr_dispatch.proofs.Parting.{image_of, nearest_some, subclass_goes}

module _ (rows : List Row) (g : Renaming) (are : AreRows rows) (news : AreRows (rows_to g rows)) where
  -- the image is dispatched to some method
  pub goes : (of : ClassKey) (m was : MethodKey) → DispatchesTo rows of m was → (now : MethodKey) × DispatchesTo (rows_to g rows) (class_to g of) (method_to g m) now
  goes of m was o =
      let both = programs g rows are news in
      let image = image_of (entries_of rows) (entries_of (rows_to g rows)) both m.name _ o.d o.j o.virtual in
      let below = subclass_goes (entries_of rows) (entries_of (rows_to g rows)) both.alike.parents o.c o.d o.below in
      let near = nearest_some (entries_of (rows_to g rows)) both.new_acyclic both.one_new image.0 _ o.c o.d o.j below image.1 in
      let later = found g rows are news (rows_to g rows) news (class_to g of) (method_to g m) o.c o.d o.j near.0 image.0 _ (row_goes g rows (class_decl of) o.c o.place) (row_goes g rows (method_decl m) o.j o.row) image.1 below near.1 in
      (later.key, later.is)

  pub to_image : ((k : ClassKey) (m : MethodKey) → ChangesDispatch rows (images_of rows g) k m → ⊥) → (of : ClassKey) (m was : MethodKey) → DispatchesTo rows of m was → DispatchesTo (rows_to g rows) (class_to g of) (method_to g m) (method_to g was)
  to_image none of m was o = (let n = goes of m was o in by n.0 n.1 (same_method n.0 (method_to g was)) refl)
    where
      by : (now : MethodKey) → DispatchesTo (rows_to g rows) (class_to g of) (method_to g m) now → (b : Bool) → same_method now (method_to g was) ≡ b
          → DispatchesTo (rows_to g rows) (class_to g of) (method_to g m) (method_to g was)
      by now d true e = subst (DispatchesTo (rows_to g rows) (class_to g of) (method_to g m)) ((method_decides now (method_to g was)).0 e) d
      by now d false e = absurd (none of m (record {
        was = was;
        now = now;
        old = o;
        new = d;
        changed = λ same. let t = sym e ∙ (method_decides now (method_to g was)).1 same in absurd cc;
      }))

pub kept : DispatchIsKept
kept rows g are news none of m was o = to_image rows g are news none of m was o
