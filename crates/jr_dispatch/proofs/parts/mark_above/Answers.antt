use Rattle.std.proofs.Common.{ℕ, Option, sym, subst}
use Rattle.jr_table.specs.Entries.{entries_of}
use Rattle.jr_table.specs.Wanted.{passes}
use Rattle.jr_table.proofs.Chaining.{shorter}
use Rattle.jr_table.proofs.RowLaws.{acyclic_rows}
use Rattle.jr_dispatch.specs.Changes.{MarksOne}
use Rattle.jr_dispatch.proofs.Marking.{one_more, none_higher}
use Rattle.jr_dispatch.proofs.parts.mark_above.Goals as goal

pub loop-row-init : goal.loop-row-init
loop-row-init c = (c.requires.unparted, c.requires.none)

pub loop-row-smaller : goal.loop-row-smaller
loop-row-smaller c =
    shorter (entries_of c.args.old.now) (acyclic_rows c.args.old.now c.keeps_rows.ensures) c.loop-row.at c.in-Some.parent (sym c.in-Some.ensures)

pub loop-row-preserved : goal.loop-row-preserved
loop-row-preserved c =
    let old = entries_of c.args.old.now in
    let new = entries_of c.args.new.now in
    let t = passes c.args.was.now in
    let u = passes c.args.now.now in
    let acyclic = acyclic_rows c.args.old.now c.keeps_rows.ensures in
    let none = c.loop-row.invariant.1 in
    let ones = subst (λ (o : Option ℕ). MarksOne c.loop-row.marks.items o c.mark.new.marks.items) c.own-row.ensures c.mark.ensures in (
      one_more old new t u c.requires.tests acyclic c.loop-row.marks.items c.mark.new.marks.items c.loop-row.at c.loop-row.invariant.0 none ones,
      none_higher old new t u c.requires.tests acyclic c.loop-row.at c.in-Some.parent (sym c.in-Some.ensures) none,
    )

pub returns-in_default : goal.returns-in_default
returns-in_default c =
    let old = entries_of c.args.old.now in
    let new = entries_of c.args.new.now in
    let ones = subst (λ (o : Option ℕ). MarksOne c.loop-row.marks.items o c.mark.new.marks.items) c.own-row.ensures c.mark.ensures in
    one_more old new (passes c.args.was.now) (passes c.args.now.now) c.requires.tests (acyclic_rows c.args.old.now c.keeps_rows.ensures) c.loop-row.marks.items c.mark.new.marks.items c.loop-row.at c.loop-row.invariant.0 c.loop-row.invariant.1 ones

pub returns-then-is_marked : goal.returns-then-is_marked
returns-then-is_marked c = c.loop-row.invariant.0
