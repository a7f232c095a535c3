use Rattle.std.proofs.Common.{Bool, List, subst, ◌∙◌}
use Rattle.jr_ast.specs.View.{member_of}
use Rattle.jr_cfg.specs.Graphs.{IsGraphOfMember, RunsFollowGraph}
use Rattle.jr_cfg.specs.MemberRoutes.{known}
use Rattle.jr_member_graphs.proofs.Telling.{own_tells}
use Rattle.jr_member_graphs.proofs.graphs.member_graph.Goals as goal

pub own_flags-requires : goal.own_flags-requires
own_flags-requires g c = record { fits = c.requires.fits }

pub graph-requires : goal.graph-requires
graph-requires g c = record { fits = c.requires.fits; key = c.requires.key }

pub returns-clause-tests : goal.returns-clause-tests
returns-clause-tests g c = own_tells g.A.Mark.span_from c.args.table.now (g.F.Facts.key c.args.facts.now) (g.F.Facts.decls c.args.facts.now) (g.F.Facts.types c.args.facts.now) c.args.base (member_of c.args.member.now)

pub returns-in_err-flags-clause-tests : goal.returns-in_err-flags-clause-tests
returns-in_err-flags-clause-tests g c = own_tells g.A.Mark.span_from c.args.table.now (g.F.Facts.key c.args.facts.now) (g.F.Facts.decls c.args.facts.now) (g.F.Facts.types c.args.facts.now) c.args.base (member_of c.args.member.now)

pub returns-clause-exact : goal.returns-clause-exact
returns-clause-exact g c =
    let T = g.A.Mark.span_from in
    let m = member_of c.args.member.now in
    let facts = c.args.facts.now in
    subst (λ (l : List Bool). IsGraphOfMember T c.args.super_at c.args.base (known T c.args.table.now (g.F.Facts.key facts) (g.F.Facts.decls facts) (g.F.Facts.types facts) l c.args.base m) m c.graph.result) (c.deref.ensures.value ∙ c.in_ok-flags.ensures.exact) c.graph.ensures.exact

pub returns-clause-cover : goal.returns-clause-cover
returns-clause-cover g c =
    let T = g.A.Mark.span_from in
    let m = member_of c.args.member.now in
    let facts = c.args.facts.now in
    subst (λ (l : List Bool). RunsFollowGraph T c.args.super_at c.args.base (known T c.args.table.now (g.F.Facts.key facts) (g.F.Facts.decls facts) (g.F.Facts.types facts) l c.args.base m) m c.graph.result) (c.deref.ensures.value ∙ c.in_ok-flags.ensures.exact) c.graph.ensures.cover
