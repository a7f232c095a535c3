use Rattle.std.proofs.Common.{map, sym, ap, ◌∙◌}
use Rattle.jr_table.specs.TypeView.{class_key_of}
use Rattle.jr_table.specs.Entries.{kind_of, entries_of}
use Rattle.jr_table.specs.Calls.{find_ctor}
use Rattle.jr_table.specs.Lookup.{find_ctor_of, FindsCtorOf, shown}
use Rattle.jr_lookup.specs.ScopeView.{scope_of}
use Rattle.jr_new_words.proofs.Oks.{some_weaker}
use Rattle.jr_new_words.proofs.UnchangedBy.{finds_at}
use Rattle.jr_new_words.proofs.staying_by.ctor_row.Goals as goal

pub returns : goal.returns
unfolding find_ctor_of
returns c =
    let rows = c.args.table.now in
    let s = scope_of c.args.scope.now in
    let k = class_key_of c.args.class.now in
    let ts = c.args.args.now in
    let kinds = c.as_slice-2.ensures ∙ c.in_ok-kinds.ensures ∙ ap (map (kind_of rows)) c.as_slice.ensures in
    let exact = (c.lookups_are_exact.ensures.keys rows c.keeps_rows.ensures).ctor_of s k ts in
    let is = c.in_ok-answer.ensures ∙ (λ i. find_ctor (entries_of rows) (c.number_or_none-place.ensures i) (c.number_or_none-class.ensures i) (kinds i)) in
    some_weaker c.one_row.result _ _ (λ j e. finds_at rows (find_ctor_of rows s k ts) (FindsCtorOf rows s k ts) exact c.in_ok-answer.answer (ap (shown rows) (sym is)) j e) c.one_row.ensures
