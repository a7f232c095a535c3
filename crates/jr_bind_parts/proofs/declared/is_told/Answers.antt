use Rattle.std.proofs.Common.{◌≡◌, false, sym, ap, ◌∙◌, subst}
use Rattle.jr_table.specs.declared.answers.Answer.{Answer}
use Rattle.jr_table.specs.Lookup.{shown}
use Rattle.jr_bind_expr.specs.Arms.{is_nothing}
use Rattle.jr_bind_parts.specs.DeclaredTypes.{is_told}
use Rattle.jr_bind_parts.proofs.Declaring.{told_one, told_private, told_static, told_many, told_none}
use Rattle.jr_bind_parts.proofs.declared.is_told.Goals as goal

pub returns-in-One : goal.returns-in-One
returns-in-One c =
    let rows = c.args.table.now in
    let some = subst (λ (a : Answer). is_nothing (shown rows a) ≡ false) c.in-One.is (sym c.is_nothing.ensures ∙ c.if-is_nothing.false) in
    told_one rows c.in-One.field-0 some ∙ sym (ap (λ (a : Answer). is_told (shown rows a)) c.in-One.is)

pub returns-in-Nothing : goal.returns-in-Nothing
returns-in-Nothing c = told_none c.args.table.now ∙ sym (ap (λ (a : Answer). is_told (shown c.args.table.now a)) c.in-Nothing.is)

pub returns-in-Many : goal.returns-in-Many
returns-in-Many c = told_many c.args.table.now c.in-Many.field-0 c.in-Many.field-1 ∙ sym (ap (λ (a : Answer). is_told (shown c.args.table.now a)) c.in-Many.is)

pub returns-in-NotAccessible : goal.returns-in-NotAccessible
returns-in-NotAccessible c =
    let rows = c.args.table.now in
    let some = subst (λ (a : Answer). is_nothing (shown rows a) ≡ false) c.in-NotAccessible.is (sym c.is_nothing.ensures ∙ c.if-is_nothing.false) in
    told_private rows c.in-NotAccessible.field-0 some ∙ sym (ap (λ (a : Answer). is_told (shown rows a)) c.in-NotAccessible.is)

pub returns-in-FromStatic : goal.returns-in-FromStatic
returns-in-FromStatic c = told_static c.args.table.now c.in-FromStatic.field-0 ∙ sym (ap (λ (a : Answer). is_told (shown c.args.table.now a)) c.in-FromStatic.is)
