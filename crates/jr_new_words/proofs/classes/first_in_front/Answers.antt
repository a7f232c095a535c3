use Rattle.jr_table.specs.TypeView.{class_key_of}
use Rattle.jr_new_words.specs.ChoiceView.{choice_of}
use Rattle.jr_new_words.specs.FrontView.{in_front_of}
use Rattle.jr_new_words.specs.Scopes.{rows_to, place_to}
use Rattle.jr_new_words.proofs.ClassesInFront.{asked_takes}
use Rattle.jr_new_words.proofs.classes.first_in_front.Goals as goal

pub returns-in_ok-renaming : goal.returns-in_ok-renaming
returns-in_ok-renaming c =
    let s = c.args.scopes.now in
    asked_takes (rows_to s) (place_to s) (in_front_of c.args.words.now) (class_key_of c.args.image.now) c.args.old.now (choice_of c.in_ok-renaming.field-0)
    (c.names_class.ensures.0 c.if-names_class.true) c.in_ok-renaming.ensures
