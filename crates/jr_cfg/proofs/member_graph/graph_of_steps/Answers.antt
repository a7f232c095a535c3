use Rattle.std.proofs.Common.{◌≡◌, ◌≤◌, ◌<◌, ℕ, length, map, ap, subst, ◌∙◌}
use Rattle.jr_cover.specs.Ways.{size}
use Rattle.jr_cfg.specs.Placed.{placed}
use Rattle.jr_expr_sites.specs.Steps.{sites_in}
use Rattle.jr_expr_sites.specs.StepView.{given}
use Rattle.jr_cfg.proofs.StepLaws.{sites_of_steps, steps_size}
use Rattle.jr_cfg.proofs.member_graph.graph_of_steps.Goals as goal

pub sites_and_edges-requires : goal.sites_and_edges-requires
sites_and_edges-requires g c = record { few = c.in_ok-count.ensures.few; way = c.requires.way }

pub returns-then-count-gt-MOST_SITES : goal.returns-then-count-gt-MOST_SITES
returns-then-count-gt-MOST_SITES g c w is =
    let G = given g.F.Facts.decls g.F.Facts.types c.args.here.now in
    let count : c.in_ok-count.count ≡ size w = c.in_ok-count.ensures.count G.member ∙ ap (λ l. length (sites_in l)) is ∙ steps_size w in
    (subst (λ (n : ℕ). 1000 < n) count c.if-count-gt-MOST_SITES.true, count)

pub returns : goal.returns
returns g c w is =
    let G = given g.F.Facts.decls g.F.Facts.types c.args.here.now in
    let count : c.in_ok-count.count ≡ size w = c.in_ok-count.ensures.count G.member ∙ ap (λ l. length (sites_in l)) is ∙ steps_size w in
    record {
      few = subst (λ (n : ℕ). n ≤ 1000) count c.if-count-gt-MOST_SITES.false;
      sites = c.in_ok-graph.ensures.sites ∙ ap (λ l. map (placed G) (sites_in l)) is ∙ ap (map (placed G)) (sites_of_steps w);
      edges = c.in_ok-graph.ensures.edges w is;
    }
