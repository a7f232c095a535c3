use Rattle.std.proofs.Common.{sym, ap, ◌∙◌}
use Rattle.jr_table.specs.TypeNames.{find_type}
use Rattle.jr_table.specs.Lookup.{shown, find_type_named}
use Rattle.jr_lookup.specs.ScopeView.{scope_of}
use Rattle.jr_lookup.proofs.Showing.{shows}
use Rattle.jr_lookup.proofs.lookups.type_named.Goals as goal

pub returns : goal.returns
unfolding find_type_named
returns c =
    let rows = c.args.table.now in
    let s = scope_of c.args.scope.now in
    let name = c.args.name.now in
    let exact = c.lookups_are_exact.ensures.keys rows c.keeps_rows.ensures in
    let is = c.type_at-answer.ensures ∙ ap (λ p. find_type rows p name) c.number_or_none-place.ensures in
    shows c.found_by.result rows _ _ _ (exact.type_named s name) (ap (shown rows) (sym is)) c.found_by.ensures
