use Rattle.std.proofs.Common.{map, sym, ap, ◌∙◌}
use Rattle.jr_table.specs.TypeView.{class_key_of, ty_of}
use Rattle.jr_table.specs.Entries.{entries_of}
use Rattle.jr_table.specs.Calls.{find_ctor}
use Rattle.jr_table.specs.Lookup.{shown, find_ctor_of}
use Rattle.jr_lookup.specs.ScopeView.{scope_of}
use Rattle.jr_lookup.proofs.Showing.{shows}
use Rattle.jr_lookup.proofs.lookups.ctor_of.Goals as goal

pub returns : goal.returns
unfolding find_ctor_of
returns c =
    let rows = c.args.table.now in
    let s = scope_of c.args.scope.now in
    let args = map ty_of c.args.args.now in
    let of = class_key_of c.args.class.now in
    let kinds = c.as_slice.ensures ∙ c.in_ok-kinds.ensures in
    let exact = c.lookups_are_exact.ensures.keys rows c.keeps_rows.ensures in
    let is = c.in_ok-answer.ensures ∙ (λ i. find_ctor (entries_of rows) (c.number_or_none-place.ensures i) (c.number_or_none-class.ensures i) (kinds i)) in
    shows c.found_by.result rows _ _ _ (exact.ctor_of s of args) (ap (shown rows) (sym is)) c.found_by.ensures
