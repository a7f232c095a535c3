-- What is dispatched in the program of the images was dispatched.
use Rattle.std.proofs.Common.{ℕ, List, subst, sym}
use Rattle.std.specs.Prelude.{map}
use Rattle.jr_table.specs.Keys.{ClassKey, MethodKey}
use Rattle.jr_table.specs.Decls.{class_decl, method_decl}
use Rattle.jr_table.specs.Rows.{Row}
use Rattle.jr_table.specs.Entries.{IsRowOf, kind_of, entries_of}
use Rattle.jr_table.specs.Chains.{IsSubclassAt}
use Rattle.jr_table.specs.Members.{DeclaresVirtual}
use Rattle.jr_table.specs.Conditions.{AreRows}
use Rattle.jr_table.specs.Keyed.{DispatchesTo}
use Rattle.jr_images.specs.Images.{Renaming, class_to, method_to, rows_to}
use Rattle.jr_dispatch.proofs.ImageEntries.{row_goes}
use Rattle.jr_dispatch.proofs.KeyedChanges.{programs, found}
use Rattle.jr_dispatch.proofs.Parting.{was_of, nearest_some, subclass_goes}

pub back : (rows : List Row) (g : Renaming) → AreRows rows → AreRows (rows_to g rows) → (of : ClassKey) (m now : MethodKey) (i j : ℕ) → IsRowOf rows (class_decl of) i → IsRowOf rows (method_decl m) j
    → DispatchesTo (rows_to g rows) (class_to g of) (method_to g m) now → (was : MethodKey) × DispatchesTo rows of m was
back rows g are news of m now i j class method o =
    let both = programs g rows are news in
    let params = map (kind_of (rows_to g rows)) (method_to g m).params in
    let one_class = news.one_each (class_decl (class_to g of)) o.c i o.place (row_goes g rows (class_decl of) i class) in
    let one_method = news.one_each (method_decl (method_to g m)) o.j j o.row (row_goes g rows (method_decl m) j method) in
    let virtual : DeclaresVirtual (entries_of (rows_to g rows)) (method_to g m).name params o.d j = subst (λ (n : ℕ). DeclaresVirtual (entries_of (rows_to g rows)) (method_to g m).name params o.d n) one_method o.virtual in
    let under : IsSubclassAt (entries_of (rows_to g rows)) i o.d = subst (λ (n : ℕ). IsSubclassAt (entries_of (rows_to g rows)) n o.d) one_class o.below in
    let before = was_of (entries_of rows) (entries_of (rows_to g rows)) both (method_to g m).name params o.d j virtual in
    let below = subclass_goes (entries_of (rows_to g rows)) (entries_of rows) (λ c. sym (both.alike.parents c)) i o.d under in
    let near = nearest_some (entries_of rows) both.old_acyclic both.one_old before.0 params i o.d j below before.1 in
    let earlier = found g rows are news rows are of m i o.d j near.0 before.0 params class method before.1 below near.1 in
    (earlier.key, earlier.is)
