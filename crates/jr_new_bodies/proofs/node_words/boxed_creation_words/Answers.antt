use Rattle.std.proofs.Common.{ℕ, sym, subst}
use Rattle.std.specs.Prelude.{IfOk}
use Rattle.jr_ast.specs.declared.parts.TypeRef.{TypeRef}
use Rattle.jr_ast.specs.View.{type_of, exprs_of}
use Rattle.jr_new_bodies.specs.OutputView.{gathered}
use Rattle.jr_new_bodies.specs.Known.{rows_of, context_of, TypeIsBound, TypesCreation, CreationIsBound}
use Rattle.jr_new_bodies.specs.Walks.{CreatedGathers}
use Rattle.jr_new_bodies.proofs.node_words.boxed_creation_words.Goals as goal

pub creation_words-requires-clause-created : goal.creation_words-requires-clause-created
creation_words-requires-clause-created g c =
    let h = c.args.here.now in
    subst (λ (t : TypeRef g.row.A.Denot). TypesCreation h (context_of h) c.args.path.now.steps.items (type_of t) (exprs_of c.args.args.now)) (sym c.deref.ensures) c.requires.created

pub creation_words-requires-clause-type_bound : goal.creation_words-requires-clause-type_bound
creation_words-requires-clause-type_bound g c =
    let B = λ (m : g.row.A.Denot) (b : ℕ). (g.A.Mark.span_from m b).from in
    let h = c.args.here.now in
    subst (λ (t : TypeRef g.row.A.Denot). TypeIsBound B (rows_of h) (context_of h) c.args.at (type_of t)) (sym c.deref.ensures) c.requires.type_bound

pub creation_words-requires-clause-bound : goal.creation_words-requires-clause-bound
creation_words-requires-clause-bound g c =
    let B = λ (m : g.row.A.Denot) (b : ℕ). (g.A.Mark.span_from m b).from in
    let h = c.args.here.now in
    subst (λ (t : TypeRef g.row.A.Denot). CreationIsBound B (rows_of h) (context_of h) (type_of t) (exprs_of c.args.args.now)) (sym c.deref.ensures) c.requires.bound

pub returns : goal.returns
returns g c =
    let T = g.A.Mark.span_from in
    let h = c.args.here.now in
    let old = gathered c.args.out.now in
    let new = gathered c.creation_words.new.out in
    subst (λ (t : TypeRef g.row.A.Denot). IfOk c.creation_words.result (λ _. CreatedGathers T h c.args.at (type_of t) (exprs_of c.args.args.now) old new)) c.deref.ensures c.creation_words.ensures
