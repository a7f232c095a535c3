use Rattle.std.proofs.Common.{sym, ap, ◌∙◌}
use Rattle.jr_table.specs.TypeView.{class_key_of}
use Rattle.jr_table.specs.Entries.{entries_of}
use Rattle.jr_table.specs.Fields.{find_field_of}
use Rattle.jr_table.specs.Lookup.{find_field_in, FindsFieldIn, shown}
use Rattle.jr_lookup.specs.ScopeView.{scope_of}
use Rattle.jr_new_words.proofs.Oks.{some_weaker}
use Rattle.jr_new_words.proofs.UnchangedBy.{finds_at}
use Rattle.jr_new_words.proofs.staying_by.field_row_in.Goals as goal

pub returns : goal.returns
unfolding find_field_in
returns c =
    let rows = c.args.table.now in
    let s = scope_of c.args.scope.now in
    let k = class_key_of c.args.class.now in
    let name = c.args.name.now in
    let exact = (c.lookups_are_exact.ensures.keys rows c.keeps_rows.ensures).field_in s k name in
    let is = c.field_in_at.ensures ∙ (λ i. find_field_of (entries_of rows) (c.number_or_none-place.ensures i) (c.number_or_none-class.ensures i) (c.as_str.ensures i)) in
    some_weaker c.one_row.result _ _ (λ j e. finds_at rows (find_field_in rows s k name) (FindsFieldIn rows s k name) exact c.field_in_at.result (ap (shown rows) (sym is)) j e) c.one_row.ensures
