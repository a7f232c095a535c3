use Rattle.std.proofs.Common.{◌≡◌, ap, ◌∙◌}
use Rattle.jr_sources.specs.Broken.{SomeErrs, IsFirstOfAll}
use Rattle.jr_sources.proofs.Nearer.{UpTo, with_next, told_as, more_errors, no_errors, all_errors}
use Rattle.jr_sources.proofs.broken.with_errors.Goals as goal

pub loop-error-init : goal.loop-error-init
loop-error-init c = λ front h. told_as (SomeErrs front) (UpTo front c.args.member.now c.args.errors.now 0) c.args.best (no_errors front c.args.member.now c.args.errors.now) h

pub loop-error-preserved : goal.loop-error-preserved
loop-error-preserved c = λ front h.
    with_next (UpTo front c.args.member.now c.args.errors.now c.loop-error.error-index) (UpTo front c.args.member.now c.args.errors.now _) c.place.result c.nearer.result
    (more_errors front c.args.member.now c.args.errors.now c.loop-error.error-index _ c.place.result c.loop-error-test.true c.place.ensures.file c.place.ensures.at c.place.ensures.rule)
    c.loop-error.best c.nearer.ensures (c.loop-error.invariant front h)

pub returns : goal.returns
returns c = λ front h. told_as (UpTo front c.args.member.now c.args.errors.now c.loop-error.error-index) _ c.loop-error.best (all_errors front c.args.member.now c.args.errors.now c.loop-error.error-index c.loop-error-test.false) (c.loop-error.invariant front h)
