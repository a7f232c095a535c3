use Rattle.std.proofs.Common.{◌≡◌, ℕ, length, sym, subst, arith}
use Rattle.jr_table.specs.Entries.{entries_of}
use Rattle.jr_dispatch.proofs.Rounds.{ArePartedBefore, none_parted, parted_round, all_parted}
use Rattle.jr_dispatch.proofs.parts.parted_classes.Goals as goal

pub loop-number-init : goal.loop-number-init
loop-number-init c = (
  subst (ArePartedBefore (entries_of c.args.old.now) (entries_of c.args.new.now) 0) (sym c.new-lows.ensures.items) (none_parted (entries_of c.args.old.now) (entries_of c.args.new.now)),
  λ j d marked. absurd (c.in_ok-marks.ensures j marked),
)

pub loop-number-preserved : goal.loop-number-preserved
loop-number-preserved c = (
  parted_round (entries_of c.args.old.now) (entries_of c.args.new.now) c.loop-number.number _ _ c.loop-number.invariant.0 c.in_ok-push_parted.ensures.lows,
  c.in_ok-push_parted.ensures.unparted,
)

pub returns : goal.returns
returns c =
    let count = c.count-number-end.ensures in
    let past = c.loop-number-test.false in
    let most = c.loop-number.auto.number-end in
    let all : c.loop-number.number ≡ length c.args.old.now = omega (arith, count, past, most) in
    all_parted c.args.old.now (entries_of c.args.new.now) c.loop-number.lows.items
    (subst (λ (n : ℕ). ArePartedBefore (entries_of c.args.old.now) (entries_of c.args.new.now) n c.loop-number.lows.items) all c.loop-number.invariant.0)
