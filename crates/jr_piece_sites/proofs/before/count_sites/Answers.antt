use Rattle.std.proofs.Common.{length, ap, arith}
use Rattle.jr_sites.specs.SiteView.{placed_of}
use Rattle.jr_cfg.specs.Placed.{placed}
use Rattle.jr_expr_sites.specs.StepView.{given, steps_in}
use Rattle.jr_expr_sites.specs.Steps.{sites_in}
use Rattle.std.proofs.lemmas.List.{length-map}
use Rattle.jr_piece_sites.proofs.before.count_sites.Goals as goal

pub returns : goal.returns
returns g c =
    let G = given g.F.Facts.decls g.F.Facts.types c.args.here.now in
    let sites = c.in_ok-sites.sites.items in
    let a = length-map sites placed_of in
    let b = length-map (sites_in (steps_in G.member c.args.steps.now)) (placed G) in
    let same = ap length c.in_ok-sites.ensures in
    let l = c.len.ensures in
    let n = c.in-Ok.ensures in
    omega (arith, a, b, same, l, n)
