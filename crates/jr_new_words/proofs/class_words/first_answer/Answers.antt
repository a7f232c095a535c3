use Rattle.std.proofs.Common.{[], ap, sym, ◌∙◌, inl, inr}
use Rattle.jr_table.specs.Entries.{entries_of}
use Rattle.jr_table.specs.Fields.{find_field}
use Rattle.jr_table.specs.TypeNames.{find_type}
use Rattle.jr_table.specs.Found.{nothing}
use Rattle.jr_table.specs.Scope.{Scope}
use Rattle.jr_table.specs.Lookup.{find_type_named, shown}
use Rattle.jr_lookup.specs.ScopeView.{scope_of}
use Rattle.jr_new_words.proofs.Nothings.{bare_variable}
use Rattle.jr_new_words.proofs.Refuting.{refuted}
use Rattle.jr_new_words.proofs.class_words.first_answer.Goals as goal

pub returns-then-is_nothing : goal.returns-then-is_nothing
unfolding find_type_named
returns-then-is_nothing c =
    let rows = c.args.table.now in
    let s = scope_of c.args.scope.now in
    let name = c.args.name.now in
    let bare : Scope = record { class = s.class; is_static = s.is_static; locals = [] } in
    let keys = c.lookups_are_exact.ensures.keys rows c.keeps_rows.ensures in
    let is = c.field_at-field.ensures ∙ (λ i. find_field (entries_of rows) (c.number_or_none-place.ensures i) s.is_static (c.as_str.ensures i)) in
    let free = (keys.variable bare name nothing).0 (bare_variable rows s name c.field_at-field.result is ∙ c.is_nothing.ensures.0 c.if-is_nothing.true) in
    let type_is = c.type_at.ensures ∙ (λ i. find_type rows (c.number_or_none-place.ensures i) name) in
    let type = (keys.type_named bare name (shown rows c.type_at.result)).0 (ap (shown rows) (sym type_is)) in
    inr (free, type)

pub returns-else-is_nothing : goal.returns-else-is_nothing
returns-else-is_nothing c =
    let rows = c.args.table.now in
    let s = scope_of c.args.scope.now in
    let name = c.args.name.now in
    let bare : Scope = record { class = s.class; is_static = s.is_static; locals = [] } in
    let keys = c.lookups_are_exact.ensures.keys rows c.keeps_rows.ensures in
    let is = c.field_at-field.ensures ∙ (λ i. find_field (entries_of rows) (c.number_or_none-place.ensures i) s.is_static (c.as_str.ensures i)) in
    let finds = (keys.variable bare name (shown rows c.field_at-field.result)).0 (bare_variable rows s name c.field_at-field.result is) in
    inl (finds, (λ e. refuted c.if-is_nothing.false c.is_nothing.ensures e))
