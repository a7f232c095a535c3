use Rattle.std.proofs.Common.{ap, ◌∙◌}
use Rattle.std.specs.Prelude.{option_and_then}
use Rattle.jr_new_bodies.specs.MeaningView.{class_in}
use Rattle.jr_new_bodies.proofs.meanings.class_found.Goals as goal

pub returns-in-None : goal.returns-in-None
returns-in-None c = ap (option_and_then class_in) c.in-None.ensures

pub returns-in-Some : goal.returns-in-Some
returns-in-Some c = c.as_class.ensures ∙ ap (option_and_then class_in) c.in-Some.ensures
