use Rattle.std.proofs.Common.{sym, ap, ◌∙◌}
use Rattle.std.specs.Prelude.{not, ◌&&◌}
use Rattle.jr_table.specs.declared.answers.Answer.{Answer}
use Rattle.jr_table.specs.Lookup.{shown}
use Rattle.jr_bind_expr.specs.Arms.{is_nothing}
use Rattle.jr_bind_expr.proofs.Showing.{nothing_none, nothing_one, nothing_many, nothing_private, nothing_static}
use Rattle.jr_bind_expr.proofs.notes.is_nothing.Goals as goal

pub returns-in-Nothing : goal.returns-in-Nothing
returns-in-Nothing c =
    let rows = c.args.table.now in
    nothing_none rows ∙ sym (ap (λ (a : Answer). is_nothing (shown rows a)) c.in-Nothing.is)

pub returns-in-One : goal.returns-in-One
returns-in-One c =
    let rows = c.args.table.now in
    ap not c.is_row.ensures ∙ nothing_one rows c.in-One.number ∙ sym (ap (λ (a : Answer). is_nothing (shown rows a)) c.in-One.is)

pub returns-in-Many : goal.returns-in-Many
returns-in-Many c =
    let rows = c.args.table.now in
    (λ i. not (c.is_row-in-Many.ensures i && c.is_row-in-Many-2.ensures i)) ∙ nothing_many rows c.in-Many.first c.in-Many.second ∙ sym (ap (λ (a : Answer). is_nothing (shown rows a)) c.in-Many.is)

pub returns-in-NotAccessible : goal.returns-in-NotAccessible
returns-in-NotAccessible c =
    let rows = c.args.table.now in
    ap not c.is_row-in-NotAccessible.ensures ∙ nothing_private rows c.in-NotAccessible.number ∙ sym (ap (λ (a : Answer). is_nothing (shown rows a)) c.in-NotAccessible.is)

pub returns-in-FromStatic : goal.returns-in-FromStatic
returns-in-FromStatic c =
    let rows = c.args.table.now in
    ap not c.is_row-in-FromStatic.ensures ∙ nothing_static rows c.in-FromStatic.number ∙ sym (ap (λ (a : Answer). is_nothing (shown rows a)) c.in-FromStatic.is)
