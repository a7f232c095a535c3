use Rattle.std.proofs.Common.{Bool, sym, ap, ◌∙◌}
use Rattle.std.proofs.lemmas.Result.{IfOk-weaker}
use Rattle.jr_rewrite.specs.ChangeView.{changes_of}
use Rattle.jr_rewrite.specs.Edited.{entries_of}
use Rattle.jr_local_parts.specs.Answers.{edits_if}
use Rattle.jr_local_parts.proofs.answers.edits_if.Goals as goal

pub returns-then-is_changed : goal.returns-then-is_changed
returns-then-is_changed c =
    let of = entries_of (changes_of c.args.changes.now) in
    IfOk-weaker c.edits.result _ _ (λ list e. e ∙ ap (λ (b : Bool). edits_if b of) (sym c.if-is_changed.true)) c.edits.ensures
