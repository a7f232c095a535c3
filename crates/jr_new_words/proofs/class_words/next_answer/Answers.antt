use Rattle.std.proofs.Common.{ap, sym, ◌∙◌, inl, inr}
use Rattle.jr_table.specs.TypeView.{class_key_of}
use Rattle.jr_table.specs.Entries.{entries_of}
use Rattle.jr_table.specs.Fields.{find_field_of, find_member_type}
use Rattle.jr_table.specs.Found.{nothing}
use Rattle.jr_table.specs.Lookup.{find_field_in, find_type_of, shown}
use Rattle.jr_lookup.specs.ScopeView.{scope_of}
use Rattle.jr_new_words.proofs.Refuting.{refuted}
use Rattle.jr_new_words.proofs.class_words.next_answer.Goals as goal

pub returns-then-is_nothing : goal.returns-then-is_nothing
unfolding find_field_in find_type_of
returns-then-is_nothing c =
    let rows = c.args.table.now in
    let s = scope_of c.args.scope.now in
    let k = class_key_of c.args.class.now in
    let name = c.args.name.now in
    let keys = c.lookups_are_exact.ensures.keys rows c.keeps_rows.ensures in
    let is = c.field_in_at-field.ensures ∙ (λ i. find_field_of (entries_of rows) (c.number_or_none-place.ensures i) (c.number_or_none-class.ensures i) (c.as_str.ensures i)) in
    let free = (keys.field_in s k name nothing).0 (ap (shown rows) (sym is) ∙ c.is_nothing.ensures.0 c.if-is_nothing.true) in
    let type_is = c.member_type_at.ensures ∙ (λ i. find_member_type (entries_of rows) (c.number_or_none-place.ensures i) (c.number_or_none-class.ensures i) (c.as_str-then-is_nothing.ensures i)) in
    let type = (keys.type_of s k name (shown rows c.member_type_at.result)).0 (ap (shown rows) (sym type_is)) in
    inr (free, type)

pub returns-else-is_nothing : goal.returns-else-is_nothing
unfolding find_field_in
returns-else-is_nothing c =
    let rows = c.args.table.now in
    let s = scope_of c.args.scope.now in
    let k = class_key_of c.args.class.now in
    let name = c.args.name.now in
    let keys = c.lookups_are_exact.ensures.keys rows c.keeps_rows.ensures in
    let is = c.field_in_at-field.ensures ∙ (λ i. find_field_of (entries_of rows) (c.number_or_none-place.ensures i) (c.number_or_none-class.ensures i) (c.as_str.ensures i)) in
    let finds = (keys.field_in s k name (shown rows c.field_in_at-field.result)).0 (ap (shown rows) (sym is)) in
    inl (finds, (λ e. refuted c.if-is_nothing.false c.is_nothing.ensures e))
