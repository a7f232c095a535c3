use Rattle.std.proofs.Common.{◌≡◌, map, sym, ap, subst, ◌∙◌}
use Rattle.jr_index.specs.Linked.{place_of, AreOwned, AreLinkedFrom}
use Rattle.jr_table.specs.Rows.{Row}
use Rattle.jr_table.specs.RowView.{row_of}
use Rattle.jr_table.specs.ClassIndex.{top_place}
use Rattle.jr_table.proofs.SameMaps.{map-map}
use Rattle.jr_table.proofs.ClassLaws.{tops_owned, top_found}
use Rattle.jr_table.proofs.class_index.tops.Goals as goal

pub of_places-requires-clause-owned : goal.of_places-requires-clause-owned
of_places-requires-clause-owned c =
    let same = ap (map place_of) c.deref.ensures.value ∙ c.in_ok-places.ensures ∙ sym (map-map row_of (λ (r : Row). top_place r.decl) c.args.rows.now) in
    subst (λ ps. AreOwned ps 1) (sym same) (tops_owned (map row_of c.args.rows.now))

pub returns : goal.returns
returns c q =
    let same = ap (map place_of) c.deref.ensures.value ∙ c.in_ok-places.ensures ∙ sym (map-map row_of (λ (r : Row). top_place r.decl) c.args.rows.now) in
    let linked = subst (λ ps. AreLinkedFrom ps 1 0 c.in_ok-tops.tops) same c.in_ok-tops.ensures in
    sym (top_found (map row_of c.args.rows.now) q _ (linked.firsts 0 q))
