use Rattle.std.proofs.Common.{Option, Some, None, sym, subst}
use Rattle.std.specs.Prelude.{option_map}
use Rattle.std.proofs.lemmas.Result.{IfOk-weaker}
use Rattle.jr_ast.specs.Tree as tree
use Rattle.jr_ast.specs.declared.exprs.Expr.{Expr}
use Rattle.jr_ast.specs.View.{expr_of}
use Rattle.jr_table.specs.Binding.{value}
use Rattle.jr_new_bodies.specs.OutputView.{gathered}
use Rattle.jr_new_bodies.specs.Known.{context_of}
use Rattle.jr_new_bodies.specs.Bodies.{MaybeGathers}
use Rattle.jr_new_bodies.specs.Ready.{MaybeReady}
use Rattle.jr_new_bodies.proofs.Joining.{gathers_none, gathers_within}
use Rattle.jr_rewrite.specs.Spots.{level}
use Rattle.jr_rewrite.specs.Rewrites.{TransformsPart}
use Rattle.jr_new_bodies.specs.Walks.{choosing, spotted}
use Rattle.jr_new_bodies.proofs.statements.maybe.Goals as goal

pub operand-requires-clause-ready : goal.operand-requires-clause-ready
operand-requires-clause-ready g c = subst (λ (o : Option (Expr g.row.A.Denot)). MaybeReady g.A.Mark.span_from g.A.Mark.fits_at c.args.here.now c.args.path.now.steps.items c.args.step c.args.at (option_map expr_of o)) c.in-Some.is c.requires.ready

pub returns-in-None : goal.returns-in-None
returns-in-None g c = subst (λ (o : Option (Expr g.row.A.Denot)). MaybeGathers g.A.Mark.span_from c.args.here.now c.args.at (option_map expr_of o) (gathered c.args.out.now) (gathered c.args.out.now)) (sym c.in-None.is) (λ s. gathers_none None (gathered c.args.out.now))

pub returns-in-Some : goal.returns-in-Some
returns-in-Some g c =
    let T = g.A.Mark.span_from in
    let h = c.args.here.now in
    let e = expr_of c.in-Some.of in
    IfOk-weaker c.operand.result _ _ (λ _ y. subst (λ (o : Option (Expr g.row.A.Denot)). MaybeGathers T h c.args.at (option_map expr_of o) (gathered c.args.out.now) (gathered c.operand.new.out)) (sym c.in-Some.is)
    (λ s. gathers_within (λ (x : tree.Exp g.row.A.Denot). Some x) (TransformsPart T (choosing T h s.super_at) (spotted T h s) (level 0) (context_of h) value c.args.at e) (gathered c.args.out.now) (gathered c.operand.new.out) (y s))) c.operand.ensures
