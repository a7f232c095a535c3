use Rattle.std.proofs.Common.{map, sym, ap, ◌∙◌}
use Rattle.jr_table.specs.Entries.{kind_of, entries_of}
use Rattle.jr_table.specs.Calls.{find_call}
use Rattle.jr_table.specs.Lookup.{find_method_named, FindsMethodNamed, shown}
use Rattle.jr_lookup.specs.ScopeView.{scope_of}
use Rattle.jr_new_words.proofs.Oks.{some_weaker}
use Rattle.jr_new_words.proofs.UnchangedBy.{finds_at}
use Rattle.jr_new_words.proofs.staying_by.call_row.Goals as goal

pub returns : goal.returns
unfolding find_method_named
returns c =
    let rows = c.args.table.now in
    let s = scope_of c.args.scope.now in
    let name = c.args.name.now in
    let ts = c.args.args.now in
    let kinds = c.as_slice-2.ensures ∙ c.in_ok-kinds.ensures ∙ ap (map (kind_of rows)) c.as_slice.ensures in
    let exact = (c.lookups_are_exact.ensures.keys rows c.keeps_rows.ensures).method_named s name ts in
    let is = c.in_ok-answer.ensures ∙ (λ i. find_call (entries_of rows) (c.number_or_none-place.ensures i) s.is_static (c.as_str.ensures i) (kinds i)) in
    some_weaker c.one_row.result _ _ (λ j e. finds_at rows (find_method_named rows s name ts) (FindsMethodNamed rows s name ts) exact c.in_ok-answer.answer (ap (shown rows) (sym is)) j e) c.one_row.ensures
