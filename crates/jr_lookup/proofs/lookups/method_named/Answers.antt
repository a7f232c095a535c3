use Rattle.std.proofs.Common.{map, sym, ap, ◌∙◌}
use Rattle.jr_table.specs.TypeView.{ty_of}
use Rattle.jr_table.specs.Entries.{entries_of}
use Rattle.jr_table.specs.Calls.{find_call}
use Rattle.jr_table.specs.Lookup.{shown, find_method_named}
use Rattle.jr_lookup.specs.ScopeView.{scope_of}
use Rattle.jr_lookup.proofs.Showing.{shows}
use Rattle.jr_lookup.proofs.lookups.method_named.Goals as goal

pub returns : goal.returns
unfolding find_method_named
returns c =
    let rows = c.args.table.now in
    let s = scope_of c.args.scope.now in
    let name = c.args.name.now in
    let args = map ty_of c.args.args.now in
    let kinds = c.as_slice.ensures ∙ c.in_ok-kinds.ensures in
    let exact = c.lookups_are_exact.ensures.keys rows c.keeps_rows.ensures in
    let is = c.in_ok-answer.ensures ∙ (λ i. find_call (entries_of rows) (c.number_or_none-place.ensures i) s.is_static (c.as_str.ensures i) (kinds i)) in
    shows c.found_by.result rows _ _ _ (exact.method_named s name args) (ap (shown rows) (sym is)) c.found_by.ensures
