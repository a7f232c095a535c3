use Rattle.std.proofs.Common.{arith}
use Rattle.jr_table.specs.Entries.{entries_of}
use Rattle.jr_dispatch.specs.Changes.{ChangesAt}
use Rattle.jr_dispatch.proofs.Rounds.{first_at, none_next, change_within}
use Rattle.jr_dispatch.proofs.changes.first_method.Goals as goal

pub loop-number-init : goal.loop-number-init
loop-number-init c = λ i l. absurd (omega (arith, l))

pub loop-number-preserved : goal.loop-number-preserved
loop-number-preserved c =
    none_next (ChangesAt (entries_of c.args.old.now) (entries_of c.args.new.now) c.args.class) c.loop-number.number c.loop-number.invariant
    (λ h. let t = c.changes_at.ensures.1 h in let f = c.if-changes_at.false in absurd cc)

pub returns-then-changes_at-clause-some : goal.returns-then-changes_at-clause-some
returns-then-changes_at-clause-some c =
    first_at (ChangesAt (entries_of c.args.old.now) (entries_of c.args.new.now) c.args.class) c.loop-number.number (c.changes_at.ensures.0 c.if-changes_at.true) c.loop-number.invariant

pub returns-clause-none : goal.returns-clause-none
returns-clause-none c = λ i h.
    let count = c.count-number-end.ensures in
    let past = c.loop-number-test.false in
    let within = change_within c.args.old.now (entries_of c.args.new.now) c.args.class i h in
    c.loop-number.invariant i (omega (arith, count, past, within)) h
