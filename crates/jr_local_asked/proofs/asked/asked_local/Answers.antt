use Rattle.std.proofs.Common.{ℕ, Option, subst}
use Rattle.std.specs.Prelude.{MatchOption}
use Rattle.std.proofs.lemmas.Result.{IfOk-weaker}
use Rattle.jr_text.specs.declared.spans.Span.{Span}
use Rattle.jr_table.specs.declared.decls.Decl.{Decl}
use Rattle.jr_table.specs.KeyView.{decl_of}
use Rattle.jr_bind.specs.Programs.{Program}
use Rattle.jr_cursor.specs.ProgramTargets.{HasTargetAt, LacksTargetAt}
use Rattle.jr_local_asked.proofs.Targets.{lacks_target, of_declaration}
use Rattle.jr_local_asked.proofs.asked.asked_local.Goals as goal

-- what is answered of the target
abbrev Answers : (p : Program Span) (file at : ℕ) → Option Decl → Type 0
Answers p file at o = MatchOption o (LacksTargetAt p file at) (λ d. HasTargetAt p file at (decl_of d))

pub returns-in-None : goal.returns-in-None
returns-in-None g c =
    let p = g.V.View.program c.args.view.now in
    lacks_target p c.args.file c.keeps_program.ensures c.args.at (subst (Answers p c.args.file c.args.at) c.in-None.is c.in_ok-found.ensures)

pub returns-in-Some : goal.returns-in-Some
returns-in-Some g c =
    let p = g.V.View.program c.args.view.now in
    let has = subst (Answers p c.args.file c.args.at) c.in-Some.is c.in_ok-found.ensures in
    IfOk-weaker c.of_target.result _ _ (λ o h. of_declaration p c.args.file c.keeps_program.ensures c.args.at c.one_is_target.ensures c.requires.file (decl_of c.in-Some.decl) has o h) c.of_target.ensures
