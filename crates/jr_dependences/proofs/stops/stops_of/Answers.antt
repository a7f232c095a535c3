use Rattle.std.proofs.Common.{◌+◌, [], ◌∷◌, ◌++◌, ap, ◌∙◌, arith}
use Rattle.std.proofs.lemmas.Bool.{iff_false}
use Rattle.std.proofs.lemmas.Option.{slice_get-get_or, slice_get_within}
use Rattle.jr_dependences.specs.Depends.{WritesAgain}
use Rattle.jr_dependences.specs.Numbers.{SameNumber}
use Rattle.jr_dependences.proofs.Stopping.{gathers_none, gathers_same, gathers_all, stop_past, stop_more}
use Rattle.jr_dependences.proofs.stops.stops_of.Goals as goal
use Rattle.jr_dependences.proofs.stops.stops_of.Goals.{then-related+in_ok-push, else-related}

pub loop-n-init : goal.loop-n-init
loop-n-init c = gathers_same (WritesAgain SameNumber SameNumber c.args.sites.now c.args.site.now) 0 [] c.new-stops.result.items c.new-stops.ensures.items (gathers_none (WritesAgain SameNumber SameNumber c.args.sites.now c.args.site.now))

pub loop-n-preserved : goal.loop-n-preserved
loop-n-preserved c =
    let n = c.loop-n.n in
    elim c.if-related.branch [
      | then-related+in_ok-push w ↦
          gathers_same (WritesAgain SameNumber SameNumber c.args.sites.now c.args.site.now) (n + 1) (c.loop-n.stops.items ++ n ∷ []) c.if-related.stops.items (ap (λ v. v.items) w.stops-is ∙ w.in_ok-push.ensures.items)
          (stop_more SameNumber SameNumber c.args.sites.now c.args.site.now _ n c.loop-n.stops.items (slice_get-get_or c.args.sites.now n _ c.loop-n-test.true) (c.related.ensures.0 w.if-related.true) c.loop-n.invariant)
      | else-related w ↦
          gathers_same (WritesAgain SameNumber SameNumber c.args.sites.now c.args.site.now) (n + 1) c.loop-n.stops.items c.if-related.stops.items (ap (λ v. v.items) w.stops-is)
          (stop_past SameNumber SameNumber c.args.sites.now c.args.site.now _ n c.loop-n.stops.items (slice_get-get_or c.args.sites.now n _ c.loop-n-test.true) (iff_false c.related.ensures w.if-related.false) c.loop-n.invariant)
    ]

pub returns : goal.returns
returns c =
    let le = c.loop-n-test.false in
    gathers_all (WritesAgain SameNumber SameNumber c.args.sites.now c.args.site.now) c.loop-n.n c.loop-n.stops.items
    (λ n w. omega (arith, le, slice_get_within c.args.sites.now n w.0 w.1)) c.loop-n.invariant
