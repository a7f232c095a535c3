use Rattle.std.proofs.Common.{sym, ◌∙◌}
use Rattle.jr_table.specs.TypeView.{class_key_of}
use Rattle.jr_table.specs.Entries.{entries_of, class_number}
use Rattle.jr_lookup.specs.ScopeView.{scope_of}
use Rattle.jr_table.specs.Fields.{find_field_of, FindsFieldOf}
use Rattle.jr_spell.proofs.Deciding.{along}
use Rattle.jr_spell.proofs.Founds.{nothing_is}
use Rattle.jr_spell.proofs.variables.is_no_field.Goals as goal

pub returns : goal.returns
returns c =
    let rows = c.args.table.now in
    let s = scope_of c.args.scope.now in
    let k = class_key_of c.args.class.now in
    let name = c.args.name.now in
    let numbers = (c.lookups_are_exact.ensures.numbers rows c.keeps_rows.ensures).field_of (class_number rows s.class) (class_number rows k) name in
    let is = c.field_in_at.ensures ∙ (λ i. find_field_of (entries_of rows) (c.number_or_none-place.ensures i) (c.number_or_none-class.ensures i) (c.as_str.ensures i)) in
    let both = nothing_is rows _ (FindsFieldOf (entries_of rows) (class_number rows s.class) (class_number rows k) name) numbers in
    along c.is_nothing.ensures (λ e. both.0 (sym is ∙ e)) (λ f. is ∙ both.1 f)
