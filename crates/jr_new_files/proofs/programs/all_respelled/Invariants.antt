use Rattle.std.proofs.Common.{◌≡◌, take}
use Rattle.std.specs.Prelude.{sum_by}
use Rattle.jr_new_bodies.specs.Effects.{Effect}
use Rattle.jr_new_files.specs.FileEffects.{effects_of}
use Rattle.jr_new_files.proofs.programs.all_respelled.Given as goal

abbrev pub invariant-loop-output : goal.invariant-loop-output
invariant-loop-output l = l.all ≡ sum_by (λ (e : Effect). e.respelled) (effects_of (take l.output-index l.outputs))
