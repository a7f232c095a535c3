use Rattle.std.proofs.Common.{List, [], ◌∷◌, ◌++◌, map, take, ap, sym, ◌∙◌}
use Rattle.std.proofs.lemmas.List.{map-append, take_all}
use Rattle.jr_sites.specs.SiteView.{PlacedSite, placed_of}
use Rattle.jr_expr_sites.specs.declared.step.Step as raw_step
use Rattle.jr_cfg.specs.Placed.{placed}
use Rattle.jr_expr_sites.specs.Steps.{sites_in}
use Rattle.jr_expr_sites.specs.StepView.{given, step_of, steps_in}
use Rattle.jr_cfg.proofs.StepLaws.{sites_more}
use Rattle.jr_cfg.proofs.placing.placed_sites.Goals as goal

pub loop-step-init : goal.loop-step-init
loop-step-init g c = ap (map placed_of) c.new-list.ensures.items

pub loop-step-preserved : goal.loop-step-preserved
loop-step-preserved g c =
    let G = given g.F.Facts.decls g.F.Facts.types c.args.here.now in
    let i = c.loop-step.step-index in
    let steps = c.args.steps.now in
    let item = c.step-item.result in
    c.in_ok-put_placed.ensures ∙ ap (λ (l : List PlacedSite). l ++ map (placed G) (sites_in (step_of G.member item ∷ []))) c.loop-step.invariant
    ∙ sym (map-append (placed G) (sites_in (steps_in G.member (take i steps))) (sites_in (step_of G.member item ∷ [])))
    ∙ ap (map (placed G)) (sym (sites_more G.member steps i item c.loop-step-test.true c.step-item.is))

pub returns : goal.returns
returns g c =
    let G = given g.F.Facts.decls g.F.Facts.types c.args.here.now in
    c.loop-step.invariant ∙ ap (λ (l : List raw_step.Step). map (placed G) (sites_in (steps_in G.member l))) (take_all c.loop-step.step-index c.args.steps.now c.loop-step-test.false)
