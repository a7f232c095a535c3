use Rattle.std.proofs.Common.{◌≡◌, ◌∷◌, [], ◌++◌, length, map, sym, ap, ◌∙◌, arith}
use Rattle.std.proofs.lemmas.List.{length-map, map-append, map_more, take_all}
use Rattle.jr_effect.proofs.listing.bare.Goals as goal

pub loop-placed-init : goal.loop-placed-init
loop-placed-init c = ap (λ l. map (λ s. s.now) l) c.in_ok-row.ensures.items

pub loop-placed-preserved : goal.loop-placed-preserved
loop-placed-preserved c =
    let i = c.loop-placed.placed-index in
    let sites = c.args.sites.now in
    let item = c.placed-item.result in
    ap (λ l. map (λ s. s.now) l) c.in_ok-push.ensures.items ∙ map-append (λ s. s.now) c.loop-placed.row.items _
    ∙ (λ k. c.loop-placed.invariant k ++ (c.placed-item.is k).site ∷ [])
    ∙ sym (map_more (λ s. s.site) sites i item c.loop-placed-test.true)

pub returns-clause-row : goal.returns-clause-row
returns-clause-row c = c.loop-placed.invariant ∙ ap (λ l. map (λ s. s.site) l) (take_all c.loop-placed.placed-index c.args.sites.now c.loop-placed-test.false)

pub returns-clause-few : goal.returns-clause-few
returns-clause-few c =
    let whole = c.loop-placed.invariant ∙ ap (λ l. map (λ s. s.site) l) (take_all c.loop-placed.placed-index c.args.sites.now c.loop-placed-test.false) in
    let size : length c.loop-placed.row.items ≡ length c.args.sites.now =
    sym (length-map c.loop-placed.row.items (λ s. s.now)) ∙ ap length whole ∙ length-map c.args.sites.now (λ s. s.site) in
    let count = c.requires in
    omega (arith, size, count)
