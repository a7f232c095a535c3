use Rattle.std.proofs.Common.{Option, ℕ, subst}
use Rattle.std.specs.Prelude.{IfSome}
use Rattle.std.proofs.lemmas.Result.{IfOk-weaker}
use Rattle.jr_lookup.specs.ScopeView.{scope_of}
use Rattle.jr_new_words.specs.Ways.{way_of}
use Rattle.jr_new_words.specs.StayingBy.{FindsBy}
use Rattle.jr_new_words.proofs.staying_by.stays_by.Goals as goal

pub returns-in-Some : goal.returns-in-Some
returns-in-Some c =
    let s = c.args.scopes.now in
    let before = subst (λ (o : Option ℕ). IfSome o (FindsBy s.programs.before.now (scope_of s.before) (way_of c.args.from.now) c.args.name.now c.args.types.now)) c.in-Some.is c.in_ok-found.ensures in
    IfOk-weaker c.finds_image.result _ _ (λ b h t. record { number = c.in-Some.number; before = before; there = h t }) c.finds_image.ensures
