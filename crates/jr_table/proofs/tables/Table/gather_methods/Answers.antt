use Rattle.std.proofs.Common.{◌≡◌, sym, ap, subst}
use Rattle.jr_table.specs.Entries.{entries_of}
use Rattle.jr_table.specs.Gathering.{is_met, AreNamed}
use Rattle.jr_table.proofs.Chaining.{shorter}
use Rattle.jr_table.proofs.RowLaws.{acyclic_rows}
use Rattle.jr_table.proofs.GatherLaws.{begins, climbs, ends}
use Rattle.jr_table.proofs.tables.Table.gather_methods.Goals as goal

pub loop-gathering-init : goal.loop-gathering-init
loop-gathering-init c = begins c.args.self.now c.keeps_rows.ensures c.args.name.now c.args.class (is_met c.new-gathering.result.met) c.new-gathering.result.numbers.items c.new-gathering.ensures.met c.new-gathering.ensures.numbers

pub returns-in_default : goal.returns-in_default
returns-in_default c =
    let takes = c.in_ok-gather_class.ensures in
    subst (AreNamed (entries_of c.args.self.now) c.args.name.now c.args.class) (sym (ap (λ v. v.items) c.into_numbers.ensures))
    (ends c.args.self.now c.keeps_rows.ensures c.args.name.now c.args.class c.loop-gathering.at (is_met c.gather_class.new.gathering.met) c.gather_class.new.gathering.numbers.items (takes.gathers c.loop-gathering.invariant) takes.done (sym c.in_default.ensures))

pub loop-gathering-smaller : goal.loop-gathering-smaller
loop-gathering-smaller c = shorter (entries_of c.args.self.now) (acyclic_rows c.args.self.now c.keeps_rows.ensures) c.loop-gathering.at c.in-Some.parent (sym c.in-Some.ensures)

pub loop-gathering-preserved : goal.loop-gathering-preserved
loop-gathering-preserved c =
    let takes = c.in_ok-gather_class.ensures in
    climbs c.args.self.now c.keeps_rows.ensures c.args.name.now c.args.class c.loop-gathering.at (is_met c.gather_class.new.gathering.met) c.gather_class.new.gathering.numbers.items (takes.gathers c.loop-gathering.invariant) takes.done c.in-Some.parent (sym c.in-Some.ensures)
