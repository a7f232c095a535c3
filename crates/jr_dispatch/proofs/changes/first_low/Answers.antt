use Rattle.std.proofs.Common.{arith}
use Rattle.jr_table.specs.Entries.{entries_of}
use Rattle.jr_dispatch.specs.Changes.{IsLowClass}
use Rattle.jr_dispatch.proofs.Rounds.{first_at, none_next, low_within}
use Rattle.jr_dispatch.proofs.changes.first_low.Goals as goal

pub loop-number-init : goal.loop-number-init
loop-number-init c = λ i l. absurd (omega (arith, l))

pub loop-number-preserved : goal.loop-number-preserved
loop-number-preserved c =
    none_next (IsLowClass (entries_of c.args.table.now) c.args.lows.now) c.loop-number.number c.loop-number.invariant
    (λ h. let t = c.is_low.ensures.1 h in let f = c.if-is_low.false in absurd cc)

pub returns-then-is_low-clause-some : goal.returns-then-is_low-clause-some
returns-then-is_low-clause-some c =
    first_at (IsLowClass (entries_of c.args.table.now) c.args.lows.now) c.loop-number.number (c.is_low.ensures.0 c.if-is_low.true) c.loop-number.invariant

pub returns-clause-none : goal.returns-clause-none
returns-clause-none c = λ i h.
    let count = c.count-number-end.ensures in
    let past = c.loop-number-test.false in
    let within = low_within c.args.table.now c.args.lows.now i h in
    c.loop-number.invariant i (omega (arith, count, past, within)) h
