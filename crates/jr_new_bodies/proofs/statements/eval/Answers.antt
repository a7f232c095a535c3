use Rattle.std.proofs.Common.{ℕ, List, sym, subst}
use Rattle.jr_ast.specs.View.{expr_of}
use Rattle.jr_table.specs.Binding.{statement as whole}
use Rattle.jr_new_bodies.specs.Known.{ExpReady}
use Rattle.jr_new_bodies.proofs.statements.eval.Goals as goal

pub expr-requires-clause-ready : goal.expr-requires-clause-ready
expr-requires-clause-ready g c = subst (λ (q : List ℕ). ExpReady g.A.Mark.span_from g.A.Mark.fits_at c.args.here.now whole q c.args.at (expr_of c.args.of.now)) (sym c.in_ok-inner.ensures) c.requires.ready
