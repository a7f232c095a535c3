use Rattle.std.proofs.Common.{◌≡◌, ◌+◌, ℕ, map, length, refl, sym, ap, subst, ◌∙◌}
use Rattle.jr_index.specs.Linked.{place_of, AreOwned, AreLinkedFrom}
use Rattle.jr_table.specs.RowView.{row_of}
use Rattle.jr_table.specs.ClassIndex.{place_in}
use Rattle.jr_table.proofs.Walking.{as_long}
use Rattle.jr_table.proofs.ClassLaws.{classes_owned, finds_classes}
use Rattle.jr_table.proofs.class_index.ClassIndex.of_rows.Goals as goal

pub of_places-requires-clause-owned : goal.of_places-requires-clause-owned
of_places-requires-clause-owned c =
    let rows = map row_of c.args.rows.now in
    let same = ap (map place_of) c.deref.ensures.value ∙ c.in_ok-places.ensures in
    subst (λ n. AreOwned (map place_of c.deref.result.now) (n + 1)) (as_long row_of c.args.rows.now) (subst (λ ps. AreOwned ps (length rows + 1)) (sym same) (classes_owned rows))

pub returns : goal.returns
returns c =
    let rows = map row_of c.args.rows.now in
    let same = ap (map place_of) c.deref.ensures.value ∙ c.in_ok-places.ensures in
    finds_classes rows c.requires _ (sym (as_long row_of c.args.rows.now))
    (subst (λ n. AreLinkedFrom (map (place_in rows) rows) (n + 1) 0 c.in_ok-classes.classes) (sym (as_long row_of c.args.rows.now)) (subst (λ ps. AreLinkedFrom ps (length c.args.rows.now + 1) 0 c.in_ok-classes.classes) same c.in_ok-classes.ensures))
