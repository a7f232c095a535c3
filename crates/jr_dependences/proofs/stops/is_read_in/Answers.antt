use Rattle.std.proofs.Common.{ℕ, refl, arith}
use Rattle.std.proofs.lemmas.Bool.{iff_false, false≢true}
use Rattle.std.proofs.lemmas.Option.{slice_get-get_or, slice_get_within}
use Rattle.jr_sync.specs.declared.sites.Site.{Site}
use Rattle.jr_sync.specs.declared.sites.DepKind.TheVariants.{Flow}
use Rattle.jr_sync.specs.Relations.{Related}
use Rattle.jr_dependences.specs.Numbers.{SameNumber}
use Rattle.jr_dependences.proofs.Numbering.{not_first, not_more}
use Rattle.jr_dependences.proofs.stops.is_read_in.Goals as goal

pub loop-other-init : goal.loop-other-init
loop-other-init c = not_first (λ (b : Site ℕ ℕ). Related SameNumber SameNumber Flow c.args.site.now b) c.args.sites.now

pub loop-other-preserved : goal.loop-other-preserved
loop-other-preserved c =
    not_more (λ (b : Site ℕ ℕ). Related SameNumber SameNumber Flow c.args.site.now b) c.args.sites.now c.loop-other.other-index _
    (slice_get-get_or c.args.sites.now c.loop-other.other-index _ c.loop-other-test.true) (iff_false c.related.ensures c.if-related.false) c.loop-other.invariant

pub returns-then-related : goal.returns-then-related
returns-then-related c =
    (λ e. (c.loop-other.other-index, _, slice_get-get_or c.args.sites.now c.loop-other.other-index _ c.loop-other-test.true, c.related.ensures.0 c.if-related.true), λ h. refl)

pub returns : goal.returns
returns c =
    let le = c.loop-other-test.false in
    (λ e. absurd (false≢true e), λ h. absurd (c.loop-other.invariant h.0 h.1 (omega (arith, le, slice_get_within c.args.sites.now h.0 h.1 h.2)) h.2 h.3))
