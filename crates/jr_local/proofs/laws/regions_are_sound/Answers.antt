use Rattle.jr_local.proofs.Sound as sound
use Rattle.jr_local.proofs.laws.regions_are_sound.Goals as goal

pub returns : goal.returns
returns c = sound.regions_are_sound
