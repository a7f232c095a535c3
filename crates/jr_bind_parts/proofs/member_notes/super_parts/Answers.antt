use Rattle.std.proofs.Common.{Option, Vec, Global, sym, ap, ◌∙◌}
use Rattle.jr_ast.specs.declared.exprs.Expr.{Expr}
use Rattle.jr_ast.specs.View.{args_of}
use Rattle.jr_bind_parts.specs.TypedFlow.{args_count}
use Rattle.jr_bind_expr.proofs.TypedParts.{args_length}
use Rattle.jr_bind_parts.proofs.member_notes.super_parts.Goals as goal

pub returns-in-Some : goal.returns-in-Some
returns-in-Some g c =
    c.len.ensures ∙ c.in-Some.args.ok.0 ∙ args_length c.in-Some.args.items
    ∙ sym (ap (λ (o : Option (Vec (Expr g.row.A.Denot) Global)). args_count (args_of o)) c.in-Some.is)
