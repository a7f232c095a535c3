use Rattle.std.proofs.Common.{refl, sym, ◌∙◌}
use Rattle.jr_ast.specs.View.{expr_of}
use Rattle.jr_new_bodies.proofs.NewTypes.{within_read, within_smaller, last_read}
use Rattle.jr_new_bodies.proofs.new_types.read_name.Goals as goal

pub loop-part-init : goal.loop-part-init
loop-part-init g c = refl

pub loop-part-smaller : goal.loop-part-smaller
loop-part-smaller g c = within_smaller (expr_of c.loop-part.of.now) (expr_of c.in-Some.part.now) (sym c.in-Some.ensures)

pub loop-part-preserved : goal.loop-part-preserved
loop-part-preserved g c = within_read (expr_of c.loop-part.of.now) (expr_of c.in-Some.part.now) (sym c.in-Some.ensures) ∙ c.loop-part.invariant

pub returns-in-None : goal.returns-in-None
returns-in-None g c = c.simple_name.ensures ∙ last_read (expr_of c.loop-part.of.now) (sym c.in-None.ensures) ∙ c.loop-part.invariant
