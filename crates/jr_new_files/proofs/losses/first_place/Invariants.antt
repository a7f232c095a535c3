use Rattle.std.proofs.Common.{◌≡◌, ℕ, ◌<◌, [], Some}
use Rattle.std.specs.Prelude.{slice_get}
use Rattle.jr_new_bodies.specs.Effects.{Effect}
use Rattle.jr_new_files.specs.FileEffects.{effects_of}
use Rattle.jr_new_files.proofs.losses.first_place.Given as goal

abbrev pub invariant-loop-file : goal.invariant-loop-file
invariant-loop-file l = (i : ℕ) (e : Effect) → i < l.file → slice_get (effects_of l.outputs) i ≡ Some e → e.losses ≡ []
