use Rattle.std.proofs.Common.{ℕ, Option, inl, refl, sym, subst}
use Rattle.std.specs.Prelude.{MatchOption}
use Rattle.std.proofs.lemmas.Result.{IfOk-weaker}
use Rattle.jr_text.specs.declared.spans.Span.{Span}
use Rattle.jr_bind.specs.Programs.{Program}
use Rattle.jr_local_asked.specs.declared.asked.AskedLocal.{AskedLocal}
use Rattle.jr_local_asked.specs.Asking.{HasAsked, LacksAsked}
use Rattle.jr_local_asked.specs.AskedView.{asked_of}
use Rattle.jr_local_uses.specs.Inlines.{Inlines}
use Rattle.jr_local_uses.proofs.uses.inline_found.Goals as goal

-- what the search has answered
abbrev Answers : (p : Program Span) (file at : ℕ) → Option AskedLocal → Type 0
Answers p file at o = MatchOption o (LacksAsked p file at) (λ x. HasAsked p file at (asked_of x))

pub returns-in-None : goal.returns-in-None
returns-in-None g c =
    let p = g.V.View.program c.args.view.now in
    let lacks = subst (Answers p c.args.file c.args.at) c.in-None.is c.in_ok-asked.ensures in
    IfOk-weaker c.no_local.result _ _ (λ r h. subst (Inlines p c.args.file c.args.at) (sym h) (inl (lacks, refl))) c.no_local.ensures

pub of_asked-requires-clause-has : goal.of_asked-requires-clause-has
of_asked-requires-clause-has g c =
    let p = g.V.View.program c.args.view.now in
    subst (Answers p c.args.file c.args.at) c.in-Some.is c.in_ok-asked.ensures
