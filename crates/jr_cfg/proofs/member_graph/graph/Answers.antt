use Rattle.std.proofs.Common.{◌≡◌, List, ◌++◌, ap, sym, subst, ◌∙◌}
use Rattle.std.specs.Prelude.{IsTrue}
use Rattle.jr_ast.specs.View.{member_of}
use Rattle.jr_ast.specs.Marks.{member_mark}
use Rattle.jr_ast.proofs.Rows.{member_mark_is}
use Rattle.jr_table.specs.KeyView.{member_key_of}
use Rattle.jr_text.specs.declared.spans.Span.{Span}
use Rattle.jr_table.specs.Decls.{MemberKey}
use Rattle.jr_cover.proofs.Cover.{actions_follow_edges}
use Rattle.jr_expr_sites.specs.declared.step.Step as raw_step
use Rattle.jr_cfg.specs.Graphs.{HasSteps, IsAnswer}
use Rattle.jr_cfg.specs.MemberRoutes.{known}
use Rattle.jr_cfg.specs.MemberRoutes as route
use Rattle.jr_expr_sites.specs.Steps.{steps_of}
use Rattle.jr_expr_sites.specs.StepView.{steps_in}
use Rattle.jr_expr_sites.specs.KnownFacts.{Given, known_of}
use Rattle.jr_expr_sites.specs.Routes.{begins_by}
use Rattle.jr_cfg.proofs.Bodies.{sites_fit}
use Rattle.jr_cfg.proofs.Following.{answer_followed}
use Rattle.jr_cfg.proofs.NumberAt.{has_steps}
use Rattle.jr_cfg.proofs.member_graph.graph.Goals as goal

pub span-requires : goal.span-requires
span-requires g c =
    subst (λ (x : g.row.A.Denot). g.A.Mark.fits_at x c.args.base) (member_mark_is c.args.member.now) (sites_fit g.A.Mark.span_from g.A.Mark.fits_at c.args.base (member_of c.args.member.now) c.requires.fits)

pub graph_of_steps-requires : goal.graph_of_steps-requires
graph_of_steps-requires g c =
    let T = g.A.Mark.span_from in
    let m = member_of c.args.member.now in
    let base = c.args.base in
    let at = c.args.super_at in
    let facts = c.args.facts.now in
    let G : Given = record { rows = c.args.table.now; member = member_key_of c.member.result.now; start = c.span.result.from; decls = g.F.Facts.decls facts; types = g.F.Facts.types facts; never_null = c.args.never_null.now } in
    record {
      way = subst (λ (l : List raw_step.Step). HasSteps G l) (sym c.deref.ensures.value)
          (has_steps T at base m G (subst (λ (q : MemberKey). route.HasKey q m) (sym c.member.ensures) c.requires.key) c.new-steps.result.items c.member-2.new.out.items c.new-steps.ensures.items c.in_ok-member.ensures);
    }

pub returns-clause-exact : goal.returns-clause-exact
returns-clause-exact g c k o is numbers =
    let T = g.A.Mark.span_from in
    let m = member_of c.args.member.now in
    let base = c.args.base in
    let at = c.args.super_at in
    let facts = c.args.facts.now in
    let K = known T c.args.table.now (g.F.Facts.key facts) (g.F.Facts.decls facts) (g.F.Facts.types facts) c.args.never_null.now base m in
    let G : Given = record { rows = c.args.table.now; member = member_key_of c.member.result.now; start = c.span.result.from; decls = g.F.Facts.decls facts; types = g.F.Facts.types facts; never_null = c.args.never_null.now } in
    let start : c.span.result.from ≡ begins_by T (member_mark m) base = ap (λ (z : Span). z.from) c.span.ensures ∙ ap (λ (x : g.row.A.Denot). begins_by T x base) (sym (member_mark_is c.args.member.now)) in
    let same : G ≡ K = (λ i. record { rows = c.args.table.now; member = c.member.ensures i; start = start i; decls = g.F.Facts.decls facts; types = g.F.Facts.types facts; never_null = c.args.never_null.now }) in
    let own = subst (λ (q : MemberKey). route.IsKeyOf q k m) (sym c.member.ensures) is in
    let steps = ap (λ (l : List raw_step.Step). steps_in G.member l) c.deref.ensures.value ∙ c.in_ok-member.ensures k own o numbers
    ∙ ap (λ (l : List raw_step.Step). steps_in G.member l ++ steps_of (route.member T at base k m G o)) c.new-steps.ensures.items in
    subst (λ (q : Given). IsAnswer q (route.member T at base k m q o) c.graph_of_steps.result) same (c.graph_of_steps.ensures (route.member T at base k m G o) steps)

pub returns-clause-cover : goal.returns-clause-cover
returns-clause-cover g c k o is numbers P is_outside has start answers fuel =
    let T = g.A.Mark.span_from in
    let m = member_of c.args.member.now in
    let base = c.args.base in
    let at = c.args.super_at in
    let facts = c.args.facts.now in
    let K = known T c.args.table.now (g.F.Facts.key facts) (g.F.Facts.decls facts) (g.F.Facts.types facts) c.args.never_null.now base m in
    let w = route.member T at base k m K o in
    answer_followed K w c.graph_of_steps.result P.rows (λ p. IsTrue (is_outside p)) _ (actions_follow_edges (known_of K o) is_outside w P has start answers fuel) (returns-clause-exact g c k o is numbers)
