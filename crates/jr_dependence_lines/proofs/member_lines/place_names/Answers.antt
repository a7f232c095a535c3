use Rattle.std.proofs.Common.{◌+◌, ◌++◌, ◌∷◌, [], decimal, take, sym, ap, ◌∙◌}
use Rattle.std.proofs.lemmas.List.{map_more, take_all}
use Rattle.jr_sites.specs.declared.sites.PlacedSite.{PlacedSite}
use Rattle.jr_dependence_lines.specs.Tallies.{place_texts}
use Rattle.jr_dependence_lines.proofs.member_lines.place_names.Goals as goal

pub loop-site-preserved : goal.loop-site-preserved
loop-site-preserved c =
    let start = c.args.start in
    let sites = c.args.sites.now in
    let i = c.loop-site.site-index in
    c.in_ok-push.ensures.items ∙ (λ k. c.loop-site.invariant k ++ c.in_ok-name.ensures k ∷ [])
    ∙ (λ k. place_texts start (take i sites) ++ decimal (start + (c.site-item.is k).at) ∷ [])
    ∙ sym (map_more (λ (s : PlacedSite). decimal (start + s.at)) sites i c.site-item.result c.loop-site-test.true)

pub returns : goal.returns
returns c = c.loop-site.invariant ∙ ap (place_texts c.args.start) (take_all c.loop-site.site-index c.args.sites.now c.loop-site-test.false)
