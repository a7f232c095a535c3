use Rattle.std.proofs.Common.{ℕ, sym, subst}
use Rattle.std.specs.Prelude.{IfOk}
use Rattle.jr_ast.specs.declared.parts.TypeRef.{TypeRef}
use Rattle.jr_ast.specs.View.{type_of}
use Rattle.jr_new_bodies.specs.OutputView.{gathered}
use Rattle.jr_new_bodies.specs.Known.{rows_of, context_of, TypeIsBound}
use Rattle.jr_new_bodies.specs.Walks.{TypeGathers}
use Rattle.jr_new_bodies.proofs.type_names.boxed_type.Goals as goal

pub written_type-requires-clause-bound : goal.written_type-requires-clause-bound
written_type-requires-clause-bound g c =
    let B = λ (m : g.row.A.Denot) (b : ℕ). (g.A.Mark.span_from m b).from in
    let h = c.args.here.now in
    subst (λ (t : TypeRef g.row.A.Denot). TypeIsBound B (rows_of h) (context_of h) c.args.base (type_of t)) (sym c.deref.ensures) c.requires.bound

pub returns : goal.returns
returns g c =
    let T = g.A.Mark.span_from in
    let h = c.args.here.now in
    let old = gathered c.args.out.now in
    let new = gathered c.written_type.new.out in
    subst (λ (t : TypeRef g.row.A.Denot). IfOk c.written_type.result (λ _. TypeGathers T h c.args.base (type_of t) old new)) c.deref.ensures c.written_type.ensures
