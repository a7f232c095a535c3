use Rattle.std.proofs.Common.{subst, inl, inr}
use Rattle.std.specs.Prelude.{option_map}
use Rattle.std.proofs.lemmas.Result.{IfOk-weaker}
use Rattle.jr_table.specs.KeyView.{decl_of}
use Rattle.jr_new_words.specs.ChoiceView.{choice_of}
use Rattle.jr_new_words.specs.Scopes.{rows_to, place_to}
use Rattle.jr_new_words.specs.Taking.{asked_of, Takes}
use Rattle.jr_new_words.proofs.taking.taken_or_lost.Goals as goal

pub returns-in-Some : goal.returns-in-Some
returns-in-Some c =
    let s = c.args.scopes.now in
    let a = asked_of c.args.asked.now (decl_of c.args.image.now) in
    inl (subst (λ o. Takes (rows_to s) (place_to s) a c.args.old.now (option_map choice_of o)) c.in-Some.is c.in_ok-first.ensures)

pub returns-in-None : goal.returns-in-None
returns-in-None c =
    let s = c.args.scopes.now in
    let a = asked_of c.args.asked.now (decl_of c.args.image.now) in
    let none = subst (λ o. Takes (rows_to s) (place_to s) a c.args.old.now (option_map choice_of o)) c.in-None.is c.in_ok-first.ensures in
    IfOk-weaker c.lost_by.result _ _ (λ h x. inr (none, x)) c.lost_by.ensures
