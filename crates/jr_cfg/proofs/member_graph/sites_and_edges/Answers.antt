use Rattle.std.proofs.Common.{length, map, ap, sym, ◌∙◌, arith}
use Rattle.std.proofs.lemmas.List.{length-map}
use Rattle.jr_sites.specs.SiteView.{placed_of}
use Rattle.jr_cfg.specs.Placed.{placed}
use Rattle.jr_expr_sites.specs.Steps.{sites_in, shape_of}
use Rattle.jr_expr_sites.specs.StepView.{given, steps_in}
use Rattle.jr_cfg.proofs.BareWays.{bare, bare_size, bare_shapes, bare_edges}
use Rattle.jr_cfg.proofs.StepLaws.{shapes_of_steps, steps_size}
use Rattle.jr_cfg.proofs.StepLaws as step_law
use Rattle.jr_cfg.proofs.member_graph.sites_and_edges.Goals as goal

pub graph-requires : goal.graph-requires
graph-requires g c =
    let G = given g.F.Facts.decls g.F.Facts.types c.args.here.now in
    let few = c.requires.few in
    let count = step_law.shape_count G.member c.args.steps.now c.deref.result.now (c.deref.ensures.value ∙ c.in_ok-shapes.ensures G.member) in
    record { few = omega (arith, few, count) }

pub invariant_of-graph : goal.invariant_of-graph
invariant_of-graph g c =
    let G = given g.F.Facts.decls g.F.Facts.types c.args.here.now in
    let w = c.requires.way.0 in
    let shaped = c.deref.ensures.value ∙ c.in_ok-shapes.ensures G.member ∙ ap (map shape_of) c.requires.way.1 ∙ shapes_of_steps w ∙ sym (bare_shapes w) in
    record { below = c.in_ok-made.ensures.below (bare w) shaped }

pub invariant_of-result : goal.invariant_of-result
invariant_of-result g c =
    let G = given g.F.Facts.decls g.F.Facts.types c.args.here.now in
    let w = c.requires.way.0 in
    let e = c.requires.way.1 in
    let shaped = c.deref.ensures.value ∙ c.in_ok-shapes.ensures G.member ∙ ap (map shape_of) e ∙ shapes_of_steps w ∙ sym (bare_shapes w) in
    let seen = steps_in G.member c.args.steps.now in
    record {
      nodes = sym (length-map c.in_ok-sites.sites.items placed_of) ∙ ap length c.in_ok-sites.ensures ∙ length-map (sites_in seen) (placed G) ∙ ap (λ l. length (sites_in l)) e ∙ steps_size w
          ∙ sym (bare_size w) ∙ sym (c.in_ok-made.ensures.count (bare w) shaped);
    }

pub returns-clause-sites : goal.returns-clause-sites
returns-clause-sites g c = c.in_ok-sites.ensures

pub returns-clause-edges : goal.returns-clause-edges
returns-clause-edges g c w is i j =
    let G = given g.F.Facts.decls g.F.Facts.types c.args.here.now in
    let shaped = c.deref.ensures.value ∙ c.in_ok-shapes.ensures G.member ∙ ap (map shape_of) is ∙ shapes_of_steps w ∙ sym (bare_shapes w) in
    let told = c.in_ok-made.ensures.edges (bare w) shaped i j in
    let same = bare_edges w i j in
    (λ h. same.0 (told.0 h), λ h. told.1 (same.1 h))
