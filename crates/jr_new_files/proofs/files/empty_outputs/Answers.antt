use Rattle.std.proofs.Common.{◌+◌, ◌∷◌, [], refl, sym, ap, subst, ◌∙◌, arith}
use Rattle.std.proofs.lemmas.List.{map-append}
use Rattle.jr_new_bodies.specs.OutputView.{gathered}
use Rattle.jr_new_files.specs.FileEffects.{effects_of}
use Rattle.jr_new_files.proofs.Gathering.{AreNothing, push_nothing}
use Rattle.jr_new_files.proofs.files.empty_outputs.Goals as goal

pub loop-number-init : goal.loop-number-init
loop-number-init c = subst (λ xs. AreNothing (effects_of xs) 0) (sym c.new-outputs.ensures.items) (refl, λ file e s. absurd cc)

pub loop-number-preserved : goal.loop-number-preserved
loop-number-preserved c =
    subst (λ es. AreNothing es (c.loop-number._number + 1)) (sym (ap effects_of c.in_ok-push.ensures.items ∙ map-append gathered c.loop-number.outputs.items (c.new_output.result ∷ [])))
    (push_nothing (effects_of c.loop-number.outputs.items) c.loop-number._number c.loop-number.invariant.0 c.loop-number.invariant.1 (gathered c.new_output.result) c.new_output.ensures)

pub returns-clause-many : goal.returns-clause-many
returns-clause-many c = omega (arith, c.loop-number.invariant.0, c.loop-number-test.false, c.loop-number.auto._number-end)

pub returns-clause-each : goal.returns-clause-each
returns-clause-each c = c.loop-number.invariant.1
