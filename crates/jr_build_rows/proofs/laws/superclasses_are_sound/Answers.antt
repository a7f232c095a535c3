use Rattle.jr_build_rows.proofs.CleanClasses.{each_has_parent, no_cycle}
use Rattle.jr_build_rows.proofs.MeaningLaws.{one_superclass}
use Rattle.jr_build_rows.proofs.laws.superclasses_are_sound.Goals as goal

pub returns : goal.returns
returns c = record { one = one_superclass; parents = each_has_parent; acyclic = no_cycle }
