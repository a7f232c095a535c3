-- What a plan tells of the table of the new sources, and who is told it.
use Rattle.std.proofs.Common.{◌≡◌, ℕ, ◌<◌, List, length, sym, ap, subst, ◌∙◌}
use Rattle.std.specs.Prelude.{Option, Some, Bool, option_map}
use Rattle.std.proofs.lemmas.Option.{same_Some}
use Rattle.jr_text.specs.declared.spans.Span.{Span}
use Rattle.jr_text.specs.Edits.{Entry}
use Rattle.jr_lex.specs.Replacing.{IsName}
use Rattle.jr_table.specs.Decls.{Decl}
use Rattle.jr_table.specs.Rows.{Row}
use Rattle.jr_names.specs.Replies.{Outcome, planned}
use Rattle.jr_names.specs.Sites.{DepPair}
use Rattle.jr_names.specs.SiteView.{pair_of}
use Rattle.jr_bind.specs.Programs.{Program}
use Rattle.jr_images.specs.Images.{rows_to}
use Rattle.jr_rename_laws.specs.PlanLaws.{IsPlanIn}
use Rattle.jr_rename.specs.Afters.{PlansRows, IsAfter}
use Rattle.jr_rename.specs.declared.afters.After.{After}
use Rattle.jr_rename.specs.declared.afters.After.TheVariants as after
use Rattle.jr_sources.specs.declared.analyses.Analysis.{Analysis}
use Rattle.jr_sources.specs.declared.analyses.EarlierAnalysis.{EarlierAnalysis}
use Rattle.jr_sources.specs.Sources.{Source}
use Rattle.jr_sources.specs.Tables.{IsTableOf}
use Rattle.jr_sources.specs.Whole.{IsProgramOf}
use Rattle.jr_session.specs.declared.plans.Planned.{Planned}
use Rattle.jr_session.specs.declared.plans.Planned.TheVariants as plan
use Rattle.jr_session.specs.declared.plans.Asked.{Asked}
use Rattle.jr_session.specs.declared.plans.Asked.TheVariants as asked
use Rattle.jr_session.specs.Requests.{IsGoodName}
use Rattle.jr_session.specs.RequestView.{IsAfterBy, ask_by}
use Rattle.jr_session.specs.NewTables.{NewTables}
use Rattle.jr_session.specs.NewTexts.{with_edits}
use Rattle.jr_session.specs.Planning.{IsOfOutcome}
use Rattle.jr_session.specs.TableTells.{TellsTable, TellsNow, PlanTells}
use Rattle.jr_session.specs.Trying.{IsOfAnalysed}
use Rattle.jr_session.proofs.Planning.{file}

module _ (tables : NewTables) (sources : List Source) (p : Program Span) (is : IsProgramOf sources p)
    (number at : ℕ) (new : List ℕ) (within : number < length sources) (name : IsName new) where
  -- the rows of what is planned are those of the new sources
  new_rows : (edits : List (List Entry)) (renaming : List (Decl × Decl)) (respelled : ℕ) (lost : Option DepPair) (P : List Row → Type 0)
      → PlansRows p number at new (planned edits renaming respelled lost) P
      → (rows : List Row) × IsTableOf (with_edits sources edits) rows × P rows
  new_rows edits renaming respelled lost P h =
      let f = file sources p is number within in
      let g = h f.0 f.1 in
      let in_p : IsPlanIn p f.0.text number at new edits renaming respelled = record { program = is.is; name = name; planned = g.0 } in
      (rows_to g.0.found.g p.rows, tables sources p is f.0.text number at new edits renaming respelled in_p g.1, g.2)

  module _ (analysis : Analysis) (rows : p.rows ≡ analysis.table) where
    of_edits : (edits : List (List Entry)) (renaming : List (Decl × Decl)) (respelled : ℕ) (lost : Option DepPair) (a : After)
        → IsAfter p number at new (planned edits renaming respelled lost) a → TellsTable (with_edits sources edits) (Some analysis) a
    of_edits edits renaming respelled lost after.Unknown h = tt
    of_edits edits renaming respelled lost (after.Maybe table) h = tt
    of_edits edits renaming respelled lost after.Same h =
        let t = new_rows edits renaming respelled lost (λ xs. xs ≡ p.rows) h in
        λ b e. subst (IsTableOf (with_edits sources edits)) (t.2 ∙ rows ∙ ap (λ (x : Analysis). x.table) (same_Some analysis b e)) t.1
    of_edits edits renaming respelled lost (after.Images table) h =
        let t = new_rows edits renaming respelled lost (λ xs. table ≡ xs) h in
        subst (IsTableOf (with_edits sources edits)) (sym t.2) t.1

    pub of_rename : (o : Outcome) (a : After) → IsAfter p number at new o a → (r : Planned) → IsOfOutcome o r → PlanTells sources (Some analysis) r a
    of_rename o a h (plan.Wrong fault) e = tt
    of_rename o a h (plan.Refused r) e = tt
    of_rename o a h (plan.Edits edits respelled lost) (renaming, e) =
        of_edits edits renaming respelled (option_map pair_of lost) a (subst (λ (x : Outcome). IsAfter p number at new x a) e h)

-- nothing is known
of_unknown : (sources : List Source) (analysis : Analysis) (a : After) → a ≡ after.Unknown → (r : Planned) → PlanTells sources (Some analysis) r a
of_unknown sources analysis a is (plan.Wrong fault) = tt
of_unknown sources analysis a is (plan.Refused r) = tt
of_unknown sources analysis a is (plan.Edits edits respelled lost) = subst (TellsTable (with_edits sources edits) (Some analysis)) (sym is) tt

pub plan_tells : NewTables → (sources : List Source) (p : Program Span) → IsProgramOf sources p → (number : ℕ) → number < length sources → (name : List ℕ) (a : Asked) → IsGoodName (ask_by name a).name → (analysis : Analysis) → p.rows ≡ analysis.table
    → (o : Outcome) (b : After) → IsAfterBy p number a o b → (r : Planned) → IsOfOutcome o r → PlanTells sources (Some analysis) r b
plan_tells tables sources p is number within name (asked.Rename at new) good analysis rows o b h r e = of_rename tables sources p is number at new.now within good analysis rows o b h r e
plan_tells tables sources p is number within name (asked.ExtractLocal from to new) good analysis rows o b h r e = of_unknown sources analysis b h r

-- what was analysed is given with the files that stay
pub tells_now : (news : List Source) (stays : List Bool) (analysed taken : Option Analysis) → taken ≡ analysed → (given : Option EarlierAnalysis) → IsOfAnalysed taken stays given
    → (a : After) → TellsTable news analysed a → TellsNow news given a
tells_now news stays analysed taken is given of after.Unknown h = tt
tells_now news stays analysed taken is given of (after.Maybe table) h = tt
tells_now news stays analysed taken is given of after.Same h = λ e g. h e.analysis (sym is ∙ (of e g).0)
tells_now news stays analysed taken is given of (after.Images table) h = h
