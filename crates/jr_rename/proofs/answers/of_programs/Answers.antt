use Rattle.std.proofs.Common.{◌≡◌, ℕ, List, sym, ap, subst, refl, ◌∙◌}
use Rattle.std.specs.Prelude.{None, option_map}
use Rattle.std.proofs.lemmas.Result.{IfOk-weaker}
use Rattle.jr_text.specs.declared.spans.Span.{Span}
use Rattle.jr_text.specs.Edits.{Entry}
use Rattle.jr_table.specs.Rows.{Row}
use Rattle.jr_bind.specs.Programs.{Program}
use Rattle.jr_names.specs.ReplyView.{outcome_of}
use Rattle.jr_names.specs.Replies.{Outcome, planned}
use Rattle.jr_images.specs.Images.{Renaming}
use Rattle.jr_images.specs.Renames.{pairs_of}
use Rattle.jr_new_words.specs.Mappings.{KeyMapping, HaveImages}
use Rattle.jr_new_words.specs.MappingView.{keys_of, mapping_in}
use Rattle.jr_new_words.specs.Scopes.{rows_in, renaming_in}
use Rattle.jr_new_words.specs.ChoiceView.{lost_of}
use Rattle.jr_new_files.specs.Rewritings.{GivesName}
use Rattle.jr_rename.specs.Answers.{AnswersKeeping}
use Rattle.jr_rename.proofs.Answering.{loses, loses_nothing}
use Rattle.jr_rename.proofs.answers.of_programs.Goals as goal

-- what is planned of a program's rows, by rows that are the same
by_rows : (p : Program Span) (n : Renaming) (rows : List Row) (edits : List (List Entry)) (count : ℕ) (x : Outcome) → rows ≡ p.rows → x ≡ planned edits (pairs_of rows n) count None
    → AnswersKeeping p n (planned edits (pairs_of p.rows n) count None) → AnswersKeeping p n x
by_rows p n rows edits count x same is made = subst (AnswersKeeping p n) (sym (is ∙ ap (λ rs. planned edits (pairs_of rs n) count None) same)) made

pub rewrite-requires : goal.rewrite-requires
rewrite-requires g c =
    let rs = rows_in c.args.programs.now in
    let new = c.args.programs.now.after.now in
    let t = c.tables_of-tables.result in
    let is = c.tables_of-tables.ensures in
    record {
      members = c.requires.members;
      rows = is.before ∙ c.requires.rows;
      images =
          subst (λ (rows : List Row). HaveImages (keys_of t.keys) rows t.after.now) (sym is.before)
          (subst (λ (rows : List Row). HaveImages (keys_of t.keys) rs rows) (sym is.after) (subst (λ (x : KeyMapping). HaveImages x rs new) (sym is.keys) c.requires.images));
      name = subst GivesName (sym is.keys) c.requires.name;
    }

pub returns-in-Some : goal.returns-in-Some
returns-in-Some g c =
    let p = g.V.View.program c.args.view.now in
    let n = renaming_in c.args.programs.now in
    subst (AnswersKeeping p n) (sym c.lost_binding.ensures)
    (loses p n (mapping_in c.tables_of-tables.result) c.tables_of-tables.ensures.keys refl _ _ _ c.in_ok-edits.ensures c.in-Some.file (lost_of c.in-Some.lost) (ap (option_map (λ l. (l.0, lost_of l.1))) c.in-Some.is))

pub returns-in-None : goal.returns-in-None
returns-in-None g c =
    let p = g.V.View.program c.args.view.now in
    let n = renaming_in c.args.programs.now in
    let made = loses_nothing p n (mapping_in c.tables_of-tables.result) c.tables_of-tables.ensures.keys refl _ _ _ c.in_ok-edits.ensures (ap (option_map (λ l. (l.0, lost_of l.1))) c.in-None.is) in
    IfOk-weaker c.plan_of.result _ (λ o. AnswersKeeping p n (outcome_of o)) (λ o e. by_rows p n _ _ _ (outcome_of o) c.requires.rows e made) c.plan_of.ensures
