use Rattle.jr_rename_laws.proofs.Whole.{class_images, built_rows}
use Rattle.jr_rename_laws.proofs.class_laws.classes_give_images.Goals as goal

pub returns-clause-images : goal.returns-clause-images
returns-clause-images g c = class_images c.references_are_kept.ensures c.classes_stay_fair.ensures

pub returns-clause-rows : goal.returns-clause-rows
returns-clause-rows g c = built_rows c.references_are_kept.ensures c.classes_stay_fair.ensures
