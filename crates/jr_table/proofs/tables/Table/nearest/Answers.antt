use Rattle.std.proofs.Common.{sym, refl, ◌∙◌}
use Rattle.jr_table.specs.Entries.{entries_of}
use Rattle.jr_table.specs.Wanted.{passes}
use Rattle.jr_table.proofs.Chaining.{shorter}
use Rattle.jr_table.proofs.RowLaws.{acyclic_rows}
use Rattle.jr_table.proofs.StepsUp.{own_nearest, next_nearest, no_nearest}
use Rattle.jr_table.proofs.tables.Table.nearest.Goals as goal

pub loop-number-init : goal.loop-number-init
loop-number-init c = refl

pub loop-number-smaller : goal.loop-number-smaller
loop-number-smaller c =
    let acyclic = acyclic_rows c.args.self.now c.keeps_rows.ensures in
    shorter (entries_of c.args.self.now) acyclic c.loop-number.class c.in-Some-parent_of.parent (sym c.in-Some-parent_of.ensures)

pub loop-number-preserved : goal.loop-number-preserved
loop-number-preserved c =
    let acyclic = acyclic_rows c.args.self.now c.keeps_rows.ensures in
    sym (next_nearest (entries_of c.args.self.now) acyclic (passes c.args.wanted.now) c.loop-number.class c.in-Some-parent_of.parent (sym c.in_default.ensures) (sym c.in-Some-parent_of.ensures))
    ∙ c.loop-number.invariant

pub returns-in-Some : goal.returns-in-Some
returns-in-Some c =
    let acyclic = acyclic_rows c.args.self.now c.keeps_rows.ensures in
    sym (own_nearest (entries_of c.args.self.now) acyclic (passes c.args.wanted.now) c.loop-number.class c.in-Some.number (sym c.in-Some.ensures)) ∙ c.loop-number.invariant

pub returns-in_default-parent_of : goal.returns-in_default-parent_of
returns-in_default-parent_of c =
    let acyclic = acyclic_rows c.args.self.now c.keeps_rows.ensures in
    sym (no_nearest (entries_of c.args.self.now) acyclic (passes c.args.wanted.now) c.loop-number.class (sym c.in_default.ensures) (sym c.in_default-parent_of.ensures)) ∙ c.loop-number.invariant
