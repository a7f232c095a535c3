use Rattle.std.proofs.Common.{sym, ap, ◌∙◌}
use Rattle.jr_table.specs.TypeNames.{find_type}
use Rattle.jr_table.specs.Lookup.{find_type_named, FindsTypeNamed, shown}
use Rattle.jr_lookup.specs.ScopeView.{scope_of}
use Rattle.jr_new_words.proofs.Oks.{some_weaker}
use Rattle.jr_new_words.proofs.UnchangedBy.{finds_at}
use Rattle.jr_new_words.proofs.staying_by.type_row.Goals as goal

pub returns : goal.returns
unfolding find_type_named
returns c =
    let rows = c.args.table.now in
    let s = scope_of c.args.scope.now in
    let name = c.args.name.now in
    let exact = (c.lookups_are_exact.ensures.keys rows c.keeps_rows.ensures).type_named s name in
    let is = c.type_at.ensures ∙ ap (λ p. find_type rows p name) c.number_or_none-place.ensures in
    some_weaker c.one_row.result _ _ (λ j e. finds_at rows (find_type_named rows s name) (FindsTypeNamed rows s name) exact c.type_at.result (ap (shown rows) (sym is)) j e) c.one_row.ensures
