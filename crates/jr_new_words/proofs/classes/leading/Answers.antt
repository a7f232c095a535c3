use Rattle.std.proofs.Common.{None, subst}
use Rattle.std.specs.Prelude.{option_map}
use Rattle.std.proofs.lemmas.Result.{IfOk-weaker}
use Rattle.jr_table.specs.TypeView.{class_key_of}
use Rattle.jr_table.specs.Lookup.{FindsLeft}
use Rattle.jr_new_words.specs.ChoiceView.{choice_of}
use Rattle.jr_new_words.specs.Scopes.{rows_of, mapping_of, context_of, rows_to, place_to}
use Rattle.jr_new_words.specs.Taking.{TakesByName}
use Rattle.jr_new_words.proofs.ClassesInFront.{in_front_taken, in_front_lost}
use Rattle.jr_new_words.proofs.classes.leading.Goals as goal

pub returns-in-Some : goal.returns-in-Some
returns-in-Some c =
    let s = c.args.scopes.now in
    let rows = rows_of s in
    let g = mapping_of s in
    let x = context_of s in
    let old = c.args.old.now in
    let m = class_key_of c.in_ok-image.image in
    let Finds = FindsLeft (rows_to s) (place_to s) in
    let takes = subst (λ o. TakesByName rows g x Finds None m old (option_map choice_of o)) c.in-Some.is c.in_ok-first.ensures in
    in_front_taken rows g x c.args.at old (class_key_of c.args.key.now) None Finds m (choice_of c.in-Some.choice) c.in_ok-image.ensures takes

pub returns : goal.returns
returns c =
    let s = c.args.scopes.now in
    let rows = rows_of s in
    let g = mapping_of s in
    let x = context_of s in
    let old = c.args.old.now in
    let m = class_key_of c.in_ok-image.image in
    let Finds = FindsLeft (rows_to s) (place_to s) in
    let none = subst (λ o. TakesByName rows g x Finds None m old (option_map choice_of o)) c.in-None.is c.in_ok-first.ensures in
    IfOk-weaker c.first_lost.result _ _ (λ h loss. in_front_lost rows g x c.args.at old (class_key_of c.args.key.now) None Finds m (choice_of h) c.in_ok-image.ensures none loss) c.first_lost.ensures
