use Rattle.std.proofs.Common.{sym, refl}
use Rattle.jr_table.specs.Entries.{entries_of}
use Rattle.jr_table.proofs.Chaining.{shorter}
use Rattle.jr_table.proofs.RowLaws.{acyclic_rows}
use Rattle.jr_table.proofs.StepsUp.{itself, further, at_top}
use Rattle.jr_table.proofs.tables.Table.climbs_to.Goals as goal

pub returns-then-class-sup : goal.returns-then-class-sup
returns-then-class-sup c =
    let rows = entries_of c.args.self.now in
    let acyclic = acyclic_rows c.args.self.now c.keeps_rows.ensures in
    (λ t. c.loop-class.invariant.0 (itself rows acyclic c.loop-class.class c.args.sup c.if-class-sup.true), λ s. refl)

pub returns-in_default : goal.returns-in_default
returns-in_default c =
    let rows = entries_of c.args.self.now in
    let acyclic = acyclic_rows c.args.self.now c.keeps_rows.ensures in
    let differs = c.if-class-sup.false in
    (λ t. absurd cc, λ s. absurd (at_top rows acyclic c.loop-class.class c.args.sup (sym c.in_default.ensures) differs (c.loop-class.invariant.1 s)))

pub loop-class-smaller : goal.loop-class-smaller
loop-class-smaller c =
    let acyclic = acyclic_rows c.args.self.now c.keeps_rows.ensures in
    shorter (entries_of c.args.self.now) acyclic c.loop-class.class c.in-Some.parent (sym c.in-Some.ensures)

pub loop-class-preserved : goal.loop-class-preserved
loop-class-preserved c =
    let rows = entries_of c.args.self.now in
    let acyclic = acyclic_rows c.args.self.now c.keeps_rows.ensures in
    let differs = c.if-class-sup.false in
    let step = further rows acyclic c.loop-class.class c.in-Some.parent c.args.sup (sym c.in-Some.ensures) differs in
    (λ s. c.loop-class.invariant.0 (step.1 s), λ s. step.0 (c.loop-class.invariant.1 s))
