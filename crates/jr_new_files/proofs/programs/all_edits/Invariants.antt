use Rattle.std.proofs.Common.{◌≡◌, map, take}
use Rattle.jr_rewrite.specs.Edited.{entries_of}
use Rattle.jr_new_bodies.specs.Effects.{Effect}
use Rattle.jr_new_files.specs.FileEffects.{effects_of}
use Rattle.jr_new_files.proofs.programs.all_edits.Given as goal

abbrev pub invariant-loop-output : goal.invariant-loop-output
invariant-loop-output l = l.lists.items ≡ map (λ (e : Effect). entries_of e.changes) (effects_of (take l.output-index l.outputs))
