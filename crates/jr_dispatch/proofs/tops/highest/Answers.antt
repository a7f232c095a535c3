use Rattle.std.proofs.Common.{ℕ, sym, subst}
use Rattle.jr_table.specs.Entries.{entries_of}
use Rattle.jr_table.specs.Wanted.{passes}
use Rattle.jr_table.proofs.Chaining.{shorter}
use Rattle.jr_table.proofs.RowLaws.{acyclic_rows}
use Rattle.jr_dispatch.proofs.Climbing.{IsClimbed, begins, goes_on, ends}
use Rattle.jr_dispatch.proofs.tops.highest.Goals as goal

pub loop-parent-init : goal.loop-parent-init
loop-parent-init c = begins (entries_of c.args.table.now) (passes c.args.wanted.now) (acyclic_rows c.args.table.now c.keeps_rows.ensures) c.args.class

pub loop-parent-smaller : goal.loop-parent-smaller
loop-parent-smaller c =
    shorter (entries_of c.args.table.now) (acyclic_rows c.args.table.now c.keeps_rows.ensures) c.loop-parent.at c.in-Some.parent (sym c.in-Some.ensures)

pub loop-parent-preserved : goal.loop-parent-preserved
loop-parent-preserved c =
    let rows = entries_of c.args.table.now in
    let test = passes c.args.wanted.now in
    subst (λ (n : ℕ). IsClimbed rows test c.args.class c.in-Some.parent n) (sym c.higher-top.ensures)
    (goes_on rows test (acyclic_rows c.args.table.now c.keeps_rows.ensures) c.args.class c.loop-parent.at c.loop-parent.top c.in-Some.parent c.loop-parent.invariant (sym c.in-Some.ensures))

pub returns-in_default : goal.returns-in_default
returns-in_default c =
    ends (entries_of c.args.table.now) (passes c.args.wanted.now) (acyclic_rows c.args.table.now c.keeps_rows.ensures) c.args.class c.loop-parent.at c.loop-parent.top c.loop-parent.invariant (sym c.in_default.ensures)
