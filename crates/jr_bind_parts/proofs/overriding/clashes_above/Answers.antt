use Rattle.std.proofs.Common.{sym, refl, ap, ◌∙◌}
use Rattle.jr_table.specs.Entries.{entries_of}
use Rattle.jr_table.specs.RowView.{row_of}
use Rattle.jr_table.specs.Wanted.{passes}
use Rattle.jr_table.proofs.Chaining.{shorter}
use Rattle.jr_table.proofs.RowLaws.{acyclic_rows}
use Rattle.jr_bind_parts.specs.OverrideClashes.{clashes_at}
use Rattle.jr_bind_parts.proofs.Climbing.{none_above, here_above, next_above}
use Rattle.jr_bind_parts.proofs.overriding.clashes_above.Goals as goal

pub loop-parent-init : goal.loop-parent-init
loop-parent-init c = refl

pub loop-parent-smaller : goal.loop-parent-smaller
loop-parent-smaller c =
    let acyclic = acyclic_rows c.args.table.now c.keeps_rows.ensures in
    shorter (entries_of c.args.table.now) acyclic c.loop-parent.class c.in-Some.parent (sym c.in-Some.ensures)

pub loop-parent-preserved : goal.loop-parent-preserved
loop-parent-preserved c =
    let rows = c.args.table.now in
    let own = row_of c.args.own.now in
    let acyclic = acyclic_rows rows c.keeps_rows.ensures in
    let here = ap (clashes_at rows own) (sym c.own.ensures) ∙ sym c.clashes_at.ensures ∙ c.if-clashes_at.false in
    sym (next_above rows (passes c.args.wanted.now) own acyclic c.loop-parent.class c.in-Some.parent (sym c.in-Some.ensures) here) ∙ c.loop-parent.invariant

pub returns-in_default : goal.returns-in_default
returns-in_default c =
    let rows = c.args.table.now in
    sym (none_above rows (passes c.args.wanted.now) (row_of c.args.own.now) (acyclic_rows rows c.keeps_rows.ensures) c.loop-parent.class (sym c.in_default.ensures)) ∙ c.loop-parent.invariant

pub returns-then-clashes_at : goal.returns-then-clashes_at
returns-then-clashes_at c =
    let rows = c.args.table.now in
    let own = row_of c.args.own.now in
    let acyclic = acyclic_rows rows c.keeps_rows.ensures in
    let here = ap (clashes_at rows own) (sym c.own.ensures) ∙ sym c.clashes_at.ensures ∙ c.if-clashes_at.true in
    sym (here_above rows (passes c.args.wanted.now) own acyclic c.loop-parent.class c.in-Some.parent (sym c.in-Some.ensures) here) ∙ c.loop-parent.invariant
