use Rattle.std.proofs.Common.{sym, ap, ◌∙◌}
use Rattle.jr_table.specs.declared.answers.Answer.{Answer}
use Rattle.jr_table.specs.Lookup.{shown}
use Rattle.jr_bind_expr.specs.Arms.{one_decl}
use Rattle.jr_bind_expr.proofs.Showing.{one_none, one_one, one_many, one_private, one_static}
use Rattle.jr_bind_expr.proofs.notes.one_row.Goals as goal

pub returns-in-Nothing : goal.returns-in-Nothing
returns-in-Nothing c = λ rows. one_none rows ∙ sym (ap (λ (a : Answer). one_decl (shown rows a)) c.in-Nothing.is)

pub returns-in-One : goal.returns-in-One
returns-in-One c = λ rows. one_one rows c.in-One.number ∙ sym (ap (λ (a : Answer). one_decl (shown rows a)) c.in-One.is)

pub returns-in-Many : goal.returns-in-Many
returns-in-Many c = λ rows. one_many rows c.in-Many.field-0 c.in-Many.field-1 ∙ sym (ap (λ (a : Answer). one_decl (shown rows a)) c.in-Many.is)

pub returns-in-NotAccessible : goal.returns-in-NotAccessible
returns-in-NotAccessible c = λ rows. one_private rows c.in-NotAccessible.field-0 ∙ sym (ap (λ (a : Answer). one_decl (shown rows a)) c.in-NotAccessible.is)

pub returns-in-FromStatic : goal.returns-in-FromStatic
returns-in-FromStatic c = λ rows. one_static rows c.in-FromStatic.field-0 ∙ sym (ap (λ (a : Answer). one_decl (shown rows a)) c.in-FromStatic.is)
