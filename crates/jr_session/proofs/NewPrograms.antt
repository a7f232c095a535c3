-- The program behind a rename: it is read as the planned trees, its rows are the images, and its
-- references lead to them.
use Rattle.std.proofs.Common.{◌≡◌, ℕ, List, [], ◌∷◌, map, refl, sym, ap, subst, ◌∙◌}
use Rattle.jr_text.specs.declared.spans.Span.{Span}
use Rattle.jr_text.specs.SpliceLaws.{UntouchedBytesMove}
use Rattle.jr_ast.specs.MemberTree.{Unit as UnitTree}
use Rattle.jr_grammar.specs.Bare.{bare_unit}
use Rattle.jr_grammar.specs.Layout.{itself}
use Rattle.jr_table.specs.Rows.{Row}
use Rattle.jr_table.specs.Conditions.{AreRows}
use Rattle.jr_table.specs.Keyed.{DispatchesTo}
use Rattle.jr_table.specs.DeclaredItems.{DeclaredItem, declarations_of}
use Rattle.jr_names.specs.declared.steps.Step.TheVariants as step
use Rattle.jr_punit_laws.specs.OneReading.{OneReading}
use Rattle.jr_bind.specs.Programs.{Program, units_of}
use Rattle.jr_program_laws.specs.FileParts.{begins}
use Rattle.jr_rewrite.specs.AlongMembers.{AlongUnits}
use Rattle.jr_rewrite.specs.Rewritten.{Rewritten}
use Rattle.jr_rewrite.proofs.UnbaredMembers.{unit_bare}
use Rattle.jr_rename_laws.specs.ImageLaws.{without_marks, AreImages, PlansBecome}
use Rattle.jr_images.specs.Images.{Renaming, class_to, method_to, member_to, rows_to}
use Rattle.jr_images.specs.Keeping.{IsKept, IsWritten, IsSuperKept, IsParentKept}
use Rattle.jr_images.specs.RenameLaws.{trees_of}
use Rattle.jr_images.specs.TextLaws.{RowsAreNamed, NamesHaveNoDot}
use Rattle.jr_rename_laws.specs.PlanLaws.{IsPlanIn, NewTextsRead, ReferencesStay, NewProgramsAreImages}
use Rattle.jr_rename_laws.specs.ClassLaws.{BuiltRowsAreImages, ConstructorsGiveImages}
use Rattle.jr_dispatch.specs.Kept.{DispatchIsKept}
use Rattle.jr_reference_changes.specs.Family.{KeepsFamilies, FamiliesAreWhole, FamiliesAreKept}
use Rattle.jr_reference_changes.specs.Fronts.{FrontsStay}
use Rattle.jr_reference_changes.specs.Names.{PlansChangeNames}
use Rattle.jr_reference_changes.specs.PlacesInFiles.{PlansAreOfPlaces}
use Rattle.jr_kept_rows.specs.Staying.{ExtractsKeepPrograms}
use Rattle.jr_kept_runs.specs.Laws.{RenamesKeepRuns, RenamesKeepFirstValues, RenamesKeepHistories}
use Rattle.jr_sources.specs.Whole.{IsProgramOf}
use Rattle.jr_session.specs.NewTexts.{with_edits}
use Rattle.jr_session.specs.Asked.{KeepsNames, rename, extract}
use Rattle.jr_session.specs.PlansRead.{PlansRead}
use Rattle.jr_session.specs.Promises.{StepsKeepPrograms}
use Rattle.jr_session.specs.Refactored.{IsPlan, Refactors}
use Rattle.jr_session.specs.States.{State}
use Rattle.jr_session.proofs.BareReferences.{kept_bare, written_bare, super_kept_bare, parent_kept_bare}
use Rattle.jr_session.proofs.NewRows.{new_rows}
use Rattle.jr_session.proofs.KeptPrograms.{HasOneCodeEach, IsShown, keeps_program}
use Rattle.jr_session.proofs.NewTrees.{units_are, became, trees as new_trees}
use Rattle.jr_session.proofs.PlansRead.{rename_reads}
use Rattle.jr_session.proofs.RenameRequest.{plan_of}
use Rattle.jr_session.proofs.RowsStay.{extract_shown}
use Rattle.jr_session.proofs.AskedSteps.{rename_answers, extract_answers, done_of}

-- ---- trees

trees_bare : (os : List (Rewritten (UnitTree Span))) → map bare_unit (trees_of os) ≡ map (λ (o : Rewritten (UnitTree Span)). without_marks o.tree) os
trees_bare [] = refl
trees_bare (o ∷ os) = (let rest = trees_bare os in λ i. bare_unit o.tree ∷ rest i)

-- ---- references

no_units_back : (zs : List (UnitTree Span)) → map bare_unit zs ≡ [] → zs ≡ []
no_units_back [] e = refl
no_units_back (z ∷ zs) e = absurd cc

module _ (g : Renaming) (rows : List Row) (declarations : List DeclaredItem) where
  units_bare : (us ys zs : List (UnitTree Span)) → map bare_unit zs ≡ map bare_unit ys
      → AlongUnits begins begins (IsKept begins begins g rows) (IsWritten begins begins g rows) (IsSuperKept g rows) (IsParentKept g rows) (member_to g) declarations us ys
      → AlongUnits begins begins (IsKept begins begins g rows) (IsWritten begins begins g rows) (IsSuperKept g rows) (IsParentKept g rows) (member_to g) declarations us zs
  units_bare [] ys zs e h = no_units_back zs (e ∙ ap (map bare_unit) h)
  units_bare (u ∷ us) ys [] e (v, rest, is, first, more) = (let p = e ∙ ap (map bare_unit) is in absurd cc)
  units_bare (u ∷ us) ys (z ∷ zs) e (v, rest, is, first, more) =
      let p : bare_unit z ∷ map bare_unit zs ≡ bare_unit v ∷ map bare_unit rest = e ∙ ap (map bare_unit) is in
      let one : bare_unit z ≡ bare_unit v = cc in
      let others : map bare_unit zs ≡ map bare_unit rest = cc in (
        z,
        zs,
        refl,
        unit_bare begins begins begins (IsKept begins begins g rows) (IsWritten begins begins g rows) (IsSuperKept g rows) (IsParentKept g rows) (IsKept begins begins g rows) (IsWritten begins begins g rows) (IsSuperKept g rows) (IsParentKept g rows) (member_to g)
            (kept_bare begins begins g rows) (written_bare begins begins g rows) (super_kept_bare g rows) (parent_kept_bare g rows) declarations u v z (sym one) first,
        units_bare us rest zs others more,
      )

-- ---- the law

module _ (one : OneReading Span) (named : RowsAreNamed Span) (dots : NamesHaveNoDot) (plans : PlansBecome Span) (read : NewTextsRead) (references : ReferencesStay) (images : NewProgramsAreImages) (built : BuiltRowsAreImages Span Span) (ctors : ConstructorsGiveImages Span Span) (dispatch : DispatchIsKept) (runs : RenamesKeepRuns) (firsts : RenamesKeepFirstValues) (histories : RenamesKeepHistories)
    (fronts : FrontsStay) (family : FamiliesAreWhole) (families : FamiliesAreKept) (places : PlansAreOfPlaces) (on_names : PlansChangeNames)
    (s t : State) (file : List ℕ) (at : ℕ) (new : List ℕ) (names : List (List ℕ)) (n : ℕ) (is : Refactors s (rename file at new) names n t)
  where
    abbrev step_plan : IsPlan s (rename file at new) is.edits n
    step_plan = is.whole.short.plan

    abbrev p : Program Span
    p = step_plan.p

    abbrev q : Program Span
    q = is.whole.q

    abbrev before : IsProgramOf s.files p
    before = step_plan.posed.program

    abbrev plan : IsPlanIn p step_plan.text step_plan.number at new is.edits step_plan.renaming n
    plan = plan_of s file at new is.edits n step_plan

    abbrev g : Renaming
    g = plan.planned.found.g

    trees : map without_marks (units_of q) ≡ map (λ (o : Rewritten (UnitTree Span)). without_marks o.tree) plan.planned.becomes.files
    trees = ap (map without_marks) (units_are (with_edits s.files is.edits) q is.whole.program)
        ∙ new_trees (rename file at new) (rename_reads read file at new) s.files p before plan.name step_plan.text step_plan.number is.edits step_plan.renaming n plan.planned one is.whole.program.units is.whole.program.words is.whole.program.program.read

    new_images : (q.rows ≡ rows_to g p.rows) × AreImages itself begins [] p.rows (units_of p) g (units_of q)
    new_images = new_rows s.files p before step_plan.text step_plan.number at new is.edits step_plan.renaming n plan named dots plans images built ctors (with_edits s.files is.edits) q is.whole.program trees

    names_kept : KeepsNames p plan.planned.found.target g new plan.planned.becomes.files is.edits step_plan.renaming q
    names_kept = record {
      images = new_images.1;
      references = units_bare g p.rows (declarations_of begins (units_of p)) (units_of p) (trees_of plan.planned.becomes.files) (units_of q) (trees ∙ sym (trees_bare plan.planned.becomes.files))
          (references p step_plan.text step_plan.number at new is.edits step_plan.renaming n plan);
      fronts = fronts p step_plan.text step_plan.number at new is.edits step_plan.renaming n plan;
      family = family p step_plan.text step_plan.number at new is.edits step_plan.renaming n plan;
      families = subst (λ (rows : List Row). KeepsFamilies p.rows g rows) (sym new_images.0) (families p step_plan.text step_plan.number at new is.edits step_plan.renaming n plan);
      places = places p step_plan.text step_plan.number at new is.edits step_plan.renaming n plan;
      names = on_names p step_plan.text step_plan.number at new is.edits step_plan.renaming n plan;
      runs = runs p q step_plan.text step_plan.number at new is.edits step_plan.renaming n plan trees new_images.0 new_images.1;
      histories = histories p q step_plan.text step_plan.number at new is.edits step_plan.renaming n plan trees new_images.0 new_images.1;
    }

    shown : IsShown s t (rename file at new) names n is
    shown = record {
      trees = trees;
      rows = new_images.0;
      dispatch = λ of m was goes.
          subst (λ (rows : List Row). DispatchesTo rows (class_to g of) (method_to g m) (method_to g was)) (sym new_images.0)
          (dispatch p.rows g before.is.are_rows (subst AreRows new_images.0 is.whole.program.is.are_rows) plan.planned.dispatch of m was goes);
      first_values = firsts p q step_plan.text step_plan.number at new is.edits step_plan.renaming n plan trees new_images.0 new_images.1;
      own = names_kept;
      fit = λ i old there.
          (let b = became (rename file at new) (rename_reads read file at new) s.files p before plan.name step_plan.text step_plan.number is.edits step_plan.renaming n plan.planned i old there in
          (b.1, b.3, b.4.are, b.4.fits));
    }

-- ---- all steps

pub steps_keep : OneReading Span → RowsAreNamed Span → NamesHaveNoDot → PlansBecome Span → NewTextsRead → ReferencesStay → NewProgramsAreImages → BuiltRowsAreImages Span Span → ConstructorsGiveImages Span Span → DispatchIsKept → RenamesKeepRuns → RenamesKeepFirstValues → RenamesKeepHistories → FrontsStay → FamiliesAreWhole → FamiliesAreKept → PlansAreOfPlaces → PlansChangeNames → HasOneCodeEach → UntouchedBytesMove → PlansRead → ExtractsKeepPrograms → StepsKeepPrograms
steps_keep one named dots plans read references images built ctors dispatch runs firsts histories fronts family families places on_names coded move plans_read extracts_stay s t (step.Rename file at new) reply h =
    λ done.
    (let r = done_of s (rename file at new) reply t (rename_answers s file at new reply t h) done in
    keeps_program s t (rename file at new) r.0 r.1 r.2 coded move (shown one named dots plans read references images built ctors dispatch runs firsts histories fronts family families places on_names s t file at new r.0 r.1 r.2))
steps_keep one named dots plans read references images built ctors dispatch runs firsts histories fronts family families places on_names coded move plans_read extracts_stay s t (step.ExtractLocal file from to new) reply h =
    λ done.
    (let r = done_of s (extract file from to new) reply t (extract_answers s file from to new reply t h) done in
    keeps_program s t (extract file from to new) r.0 r.1 r.2 coded move (extract_shown one plans_read extracts_stay s t file from to new r.0 r.1 r.2))
steps_keep one named dots plans read references images built ctors dispatch runs firsts histories fronts family families places on_names coded move plans_read extracts_stay s t of reply h = tt
