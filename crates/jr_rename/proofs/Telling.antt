-- What is told of the new program's table, put together.
use Rattle.std.proofs.Common.{◌≡◌, ℕ, List}
use Rattle.jr_text.specs.declared.spans.Span.{Span}
use Rattle.jr_table.specs.Decls.{Decl}
use Rattle.jr_names.specs.Replies.{Outcome}
use Rattle.jr_bind.specs.Programs.{Program}
use Rattle.jr_images.specs.Images.{rows_to}
use Rattle.jr_cursor.specs.ProgramTargets.{HasTargetAt}
use Rattle.jr_rename.specs.declared.afters.After.{After}
use Rattle.jr_rename.specs.declared.afters.After.TheVariants as after
use Rattle.jr_rename.specs.Afters.{IsAfter, AnswersAfter, TellsRowsOf}
use Rattle.jr_rename.specs.Answers.{Answers}
use Rattle.jr_rename.proofs.Answering.{plans_rows}

module _ (p : Program Span) where
  -- of a target
  pub answered : (d : Decl) (new : List ℕ) (o : Outcome) (a : Answers p d new o) (t : After) → TellsRowsOf d p.rows (rows_to a.0 p.rows) t → AnswersAfter p d new o t
  answered d new o a after.Unknown h = tt
  answered d new o a after.Same h = (a, h.0, h.1)
  answered d new o a (after.Images rows) h = (a, h.0, h.1)
  answered d new o a (after.Maybe rows) h = tt

  -- of what the byte names
  module _ (file at : ℕ) (new : List ℕ) (d : Decl) (has : HasTargetAt p file at d) where
    pub plans_after : (o : Outcome) (t : After) → AnswersAfter p d new o t → IsAfter p file at new o t
    plans_after o after.Unknown h = tt
    plans_after o after.Same h = plans_rows p file at new d has o (λ rows. rows ≡ p.rows) h
    plans_after o (after.Images t) h = plans_rows p file at new d has o (λ rows. t ≡ rows) h
    plans_after o (after.Maybe t) h = tt
