use Rattle.std.proofs.Common.{◌≡◌, ℕ, Some, length}
use Rattle.std.specs.Prelude.{slice_get}
use Rattle.jr_new_bodies.specs.Effects.{Effect, no_effect}
use Rattle.jr_new_files.specs.FileEffects.{effects_of}
use Rattle.jr_new_files.proofs.files.empty_outputs.Given as goal

abbrev pub invariant-loop-number : goal.invariant-loop-number
invariant-loop-number l = (length (effects_of l.outputs.items) ≡ l._number) × ((file : ℕ) (e : Effect) → slice_get (effects_of l.outputs.items) file ≡ Some e → e ≡ no_effect)
