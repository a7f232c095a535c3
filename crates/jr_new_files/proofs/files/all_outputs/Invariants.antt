use Rattle.std.proofs.Common.{take}
use Rattle.jr_new_words.specs.MappingView.{mapping_in}
use Rattle.jr_new_files.specs.FileEffects.{effects_of, members_of, AreSoFar}
use Rattle.jr_new_files.proofs.files.all_outputs.Given as goal

abbrev pub invariant-loop-number : goal.invariant-loop-number
invariant-loop-number g l = AreSoFar (g.V.View.program l.view) (mapping_in l.tables) (take l.number (members_of (g.V.View.program l.view))) (effects_of l.outputs.items)
