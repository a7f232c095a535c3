use Rattle.jr_build_rows.proofs.MeaningLaws.{means_what, extends_what}
use Rattle.jr_build_rows.proofs.laws.hierarchies_are_exact.Goals as goal

pub returns : goal.returns
returns c = record { means = means_what; extends = extends_what }
