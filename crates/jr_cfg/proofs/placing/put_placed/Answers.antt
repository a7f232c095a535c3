use Rattle.std.proofs.Common.{List, [], ◌∷◌, ◌++◌, map, ap, sym, ◌∙◌}
use Rattle.std.specs.Prelude.{option_map}
use Rattle.std.proofs.lemmas.List.{append-nil, map-append}
use Rattle.jr_sites.specs.SiteView.{PlacedSite, placed_of}
use Rattle.jr_cfg.specs.Placed.{placed}
use Rattle.jr_expr_sites.specs.StepView.{given, step_of}
use Rattle.jr_expr_sites.specs.StepView as view
use Rattle.jr_cfg.proofs.StepLaws.{one_site, listed}
use Rattle.jr_cfg.proofs.placing.put_placed.Goals as goal

pub returns-in-None : goal.returns-in-None
returns-in-None g c =
    let G = given g.F.Facts.decls g.F.Facts.types c.args.here.now in
    let none = sym (c.site_in.ensures G.member) ∙ ap (option_map (λ s. view.site_of G.member s.now)) c.in-None.is in
    sym (append-nil (map placed_of c.args.list.now.items)) ∙ ap (λ (l : List _). map placed_of c.args.list.now.items ++ map (placed G) l) (sym (one_site (step_of G.member c.args.step.now) ∙ ap listed none))

pub returns-in_ok-push-in-Some : goal.returns-in_ok-push-in-Some
returns-in_ok-push-in-Some g c =
    let G = given g.F.Facts.decls g.F.Facts.types c.args.here.now in
    let some = sym (c.site_in.ensures G.member) ∙ ap (option_map (λ s. view.site_of G.member s.now)) c.in-Some.is in
    ap (map placed_of) c.in_ok-push-in-Some.ensures.items ∙ map-append placed_of c.args.list.now.items _
    ∙ ap (λ (s : PlacedSite). map placed_of c.args.list.now.items ++ s ∷ []) c.in_ok-site-in-Some.ensures
    ∙ ap (λ (l : List _). map placed_of c.args.list.now.items ++ map (placed G) l) (sym (one_site (step_of G.member c.args.step.now) ∙ ap listed some))
