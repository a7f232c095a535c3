use Rattle.std.proofs.Common.{arith}
use Rattle.jr_rename.proofs.Naming.{within, none_next}
use Rattle.jr_rename.proofs.steps.file_of.Goals as goal

pub loop-number-preserved : goal.loop-number-preserved
loop-number-preserved g c =
    none_next (g.V.View.program c.args.view.now) c.args.name.now c.loop-number.number c.loop-number.invariant (λ h. let t = c.has_name.ensures.1 h in let f = c.if-has_name.false in absurd cc)

pub returns-then-has_name : goal.returns-then-has_name
returns-then-has_name g c = record { has = c.has_name.ensures.0 c.if-has_name.true; first = c.loop-number.invariant }

pub unreachable-requires : goal.unreachable-requires
unreachable-requires g c =
    let inside = within (g.V.View.program c.args.view.now) c.args.name.now c.requires.0 c.requires.1 in
    c.loop-number.invariant c.requires.0 (omega (arith, inside, c.loop-number-test.false, c.file_count-number-end.ensures)) c.requires.1
