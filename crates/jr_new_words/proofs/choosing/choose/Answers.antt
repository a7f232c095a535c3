use Rattle.std.proofs.Common.{subst, ap, ◌∙◌}
use Rattle.std.specs.Prelude.{IfSome}
use Rattle.jr_table.specs.KeyView.{decl_of}
use Rattle.jr_spell.specs.ReferenceView.{reference_of}
use Rattle.jr_spell.specs.Taken.{IsTaken}
use Rattle.jr_images.specs.Spelling.{spelled}
use Rattle.jr_new_words.specs.Scopes.{rows_to, place_to}
use Rattle.jr_new_words.proofs.choosing.choose.Goals as goal

pub returns-in-None : goal.returns-in-None
returns-in-None c = c.in_ok-first.ensures.none c.in-None.is

pub returns-in_ok-by_form-in-Some : goal.returns-in_ok-by_form-in-Some
returns-in_ok-by_form-in-Some c =
    let s = c.args.scopes.now in
    let taken = subst (λ o. IfSome o (IsTaken (rows_to s) (place_to s) (reference_of c.args.asked.now.reference) (decl_of c.args.target.now))) c.in-Some.is c.in_ok-first.ensures.some in
    (c.in-Some.form, taken, c.in_ok-by_form-in-Some.ensures ∙ ap (λ k. spelled c.args.old.now c.args.asked.now.name k c.in-Some.form) c.declaring_class-class.ensures)
