use Rattle.std.proofs.Common.{◌∙◌}
use Rattle.jr_table.specs.Entries.{entries_of}
use Rattle.jr_table.specs.Fields.{find_field}
use Rattle.jr_lookup.specs.ScopeView.{scope_of}
use Rattle.jr_new_words.proofs.Oks.{some_weaker}
use Rattle.jr_new_words.proofs.Unchanged.{finds_row}
use Rattle.jr_new_words.proofs.staying.field_row.Goals as goal

pub returns : goal.returns
returns c =
    let rows = c.args.table.now in
    let s = scope_of c.args.scope.now in
    let name = c.args.name.now in
    let keys = c.lookups_are_exact.ensures.keys rows c.keeps_rows.ensures in
    let is = c.field_at.ensures ∙ (λ i. find_field (entries_of rows) (c.number_or_none-place.ensures i) s.is_static (c.as_str.ensures i)) in
    some_weaker c.one_row.result _ _ (λ j e. finds_row rows keys s name c.field_at.result is j e) c.one_row.ensures
