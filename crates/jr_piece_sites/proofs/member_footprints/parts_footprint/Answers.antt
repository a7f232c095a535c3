use Rattle.std.proofs.Common.{◌≡◌, ◌-◌, List, ◌++◌, map, ap, subst, ◌∙◌}
use Rattle.std.specs.Prelude.{IfOk}
use Rattle.jr_sites.specs.SiteView.{placed_of}
use Rattle.jr_cfg.specs.Placed.{placed}
use Rattle.jr_expr_sites.specs.KnownFacts.{known_of}
use Rattle.jr_expr_sites.specs.StepView.{given, steps_in}
use Rattle.jr_expr_sites.specs.Steps.{sites_in}
use Rattle.jr_piece_sites.specs.Pieces.{spotted}
use Rattle.jr_piece_sites.specs.PieceView.{piece_of}
use Rattle.jr_expr_sites.specs.declared.step.Step as raw_step
use Rattle.jr_cover.specs.Sites.{Site}
use Rattle.jr_code.specs.RunKeys.{RunKeys}
use Rattle.jr_piece_sites.specs.PartSites.{parts_sites}
use Rattle.jr_piece_sites.proofs.member_footprints.parts_footprint.Goals as goal

pub front-requires : goal.front-requires
front-requires g c = record { fits = c.requires.fits; start = c.requires.start }

pub put_parts-requires : goal.put_parts-requires
put_parts-requires g c = record { fits = c.requires.fits; ordered = c.requires.ordered; all = c.requires.all; number = c.in_ok-number.ensures.number }

pub returns : goal.returns
returns g c o q =
    let T = g.A.Mark.span_from in
    let G = given g.F.Facts.decls g.F.Facts.types c.args.here.now in
    let f = c.args.found in
    let x = spotted T f.base c.args.path.now.steps.items (piece_of f.of) in
    let sites = parts_sites (known_of G o) x c.args.from (c.args.to - c.args.from) in
    let steps = ap (λ (l : List raw_step.Step). sites_in (steps_in G.member l)) c.deref.ensures.value ∙ c.in_ok-put_parts.ensures o q
    ∙ ap (λ (l : List raw_step.Step). sites_in (steps_in G.member l) ++ sites) c.new-steps.ensures.items in
    subst (λ (l : List (Site RunKeys)). IfOk c.placed_sites.result (λ v. map placed_of v.items ≡ map (placed G) l)) steps c.placed_sites.ensures
