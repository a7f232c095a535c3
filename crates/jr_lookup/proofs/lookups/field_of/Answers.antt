use Rattle.std.proofs.Common.{sym, ap, ◌∙◌}
use Rattle.jr_table.specs.TypeView.{class_key_of}
use Rattle.jr_table.specs.Entries.{entries_of}
use Rattle.jr_table.specs.Fields.{find_field_of}
use Rattle.jr_table.specs.Lookup.{shown, find_field_in}
use Rattle.jr_lookup.specs.ScopeView.{scope_of}
use Rattle.jr_lookup.proofs.Showing.{shows}
use Rattle.jr_lookup.proofs.lookups.field_of.Goals as goal

pub returns : goal.returns
unfolding find_field_in
returns c =
    let rows = c.args.table.now in
    let s = scope_of c.args.scope.now in
    let name = c.args.name.now in
    let of = class_key_of c.args.class.now in
    let exact = c.lookups_are_exact.ensures.keys rows c.keeps_rows.ensures in
    let is = c.field_in_at-answer.ensures ∙ (λ i. find_field_of (entries_of rows) (c.number_or_none-place.ensures i) (c.number_or_none-class.ensures i) (c.as_str.ensures i)) in
    shows c.found_by.result rows _ _ _ (exact.field_in s of name) (ap (shown rows) (sym is)) c.found_by.ensures
