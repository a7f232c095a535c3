use Rattle.std.proofs.Common.{subst, inr}
use Rattle.std.specs.Prelude.{IfSome, IfNone}
use Rattle.std.proofs.lemmas.Result.{IfOk-weaker}
use Rattle.jr_table.specs.Keys.{ClassKey, MethodKey}
use Rattle.jr_table.specs.TypeView.{class_key_of}
use Rattle.jr_table.specs.KeyView.{method_key_of}
use Rattle.jr_names.specs.ReplyView.{outcome_of}
use Rattle.jr_images.specs.ImageView.{renaming_of}
use Rattle.jr_images.specs.Regions.{images_of}
use Rattle.jr_plan.specs.Reasons.{ChangesDispatch, IsFirstChange}
use Rattle.jr_rename.specs.Answers.{KeepsDispatch, AnswersKeeping, AnswersOf}
use Rattle.jr_rename.proofs.Answering.{overridden}
use Rattle.jr_rename.proofs.answers.of_tables.Goals as goal

pub returns-in-Some : goal.returns-in-Some
returns-in-Some g c =
    let h = subst (λ o. IfSome o (λ p. IsFirstChange c.args.before.now (images_of c.args.before.now (renaming_of c.args.g.now)) (class_key_of p.0) (method_key_of p.1))) c.in-Some.is c.in_ok-class.ensures.first in
    overridden (g.V.View.program c.args.view.now) (renaming_of c.args.g.now) (class_key_of c.in-Some.class) (method_key_of c.in-Some.method)
    (subst (λ rows. IsFirstChange rows (images_of rows (renaming_of c.args.g.now)) (class_key_of c.in-Some.class) (method_key_of c.in-Some.method)) c.requires.before h)

pub returns-in-None : goal.returns-in-None
returns-in-None g c =
    let none = subst (λ o. IfNone o ((k : ClassKey) (m : MethodKey) → ChangesDispatch c.args.before.now (images_of c.args.before.now (renaming_of c.args.g.now)) k m → ⊥)) c.in-None.is c.in_ok-class.ensures.none in
    let keeps : KeepsDispatch (g.V.View.program c.args.view.now) (renaming_of c.args.g.now) =
    subst (λ rows. (k : ClassKey) (m : MethodKey) → ChangesDispatch rows (images_of rows (renaming_of c.args.g.now)) k m → ⊥) c.requires.before none in
    IfOk-weaker c.of_programs.result (λ o. AnswersKeeping (g.V.View.program c.args.view.now) (renaming_of c.args.g.now) (outcome_of o)) (λ o. AnswersOf (g.V.View.program c.args.view.now) (renaming_of c.args.g.now) (outcome_of o))
    (λ o h. inr (keeps, h)) c.of_programs.ensures
