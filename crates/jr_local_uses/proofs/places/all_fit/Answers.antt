use Rattle.std.proofs.Common.{ℕ, ◌+◌, ◌<◌, ◌^◌, All, List, subst}
use Rattle.std.proofs.lemmas.List.{take_all}
use Rattle.std.proofs.lemmas.List.Elements.{All-more}
use Rattle.jr_local_uses.proofs.Ordered.{all_below}
use Rattle.jr_local_uses.proofs.places.all_fit.Goals as goal

pub loop-at-preserved : goal.loop-at-preserved
loop-at-preserved c =
    let here = c.fits.ensures c.if-not-fits.false in
    All-more (λ (n : ℕ). n + c.args.size < 2 ^ 32) c.args.places.now c.loop-at.at-index _ c.loop-at-test.true c.loop-at.invariant here

pub returns : goal.returns
returns c =
    all_below c.args.size c.args.places.now (subst (λ (l : List ℕ). All (λ (n : ℕ). n + c.args.size < 2 ^ 32) l) (take_all c.loop-at.at-index c.args.places.now c.loop-at-test.false) c.loop-at.invariant)
