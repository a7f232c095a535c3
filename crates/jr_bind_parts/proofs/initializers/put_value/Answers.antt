use Rattle.std.proofs.Common.{ℕ, refl}
use Rattle.jr_ast.specs.View.{expr_of}
use Rattle.jr_table.specs.Binding.{value}
use Rattle.jr_table.specs.HeadRules.{plain}
use Rattle.jr_table.specs.Walks.{notes_of}
use Rattle.jr_bind_parts.proofs.Parting.{adds_at}
use Rattle.jr_bind_parts.proofs.initializers.put_value.Goals as goal

pub returns-clause-notes : goal.returns-clause-notes
returns-clause-notes g c = λ k s here.
    let B = λ (m : g.row.A.Denot) (b : ℕ). (g.A.Mark.span_from m b).from in
    adds_at B c.args.table.now k c.args.place.now (plain k s) here refl (λ d. notes_of B c.args.table.now d value c.args.at (expr_of c.args.of.now)) c.args.log.now.items c.walk_expr.new.log.items c.in_ok-walk_expr.ensures.notes
