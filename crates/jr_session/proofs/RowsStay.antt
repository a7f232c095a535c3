-- The program behind a refactoring that keeps all keys and rows: it is read as the planned trees.
-- What it keeps is a law on each program that is read so.
use Rattle.std.proofs.Common.{◌≡◌, ℕ, List, map, refl, sym, ap, subst, ◌∙◌}
use Rattle.jr_text.specs.declared.spans.Span.{Span}
use Rattle.jr_ast.specs.MemberTree.{Unit as UnitTree}
use Rattle.jr_table.specs.Rows.{Row}
use Rattle.jr_table.specs.Keyed.{DispatchesTo}
use Rattle.jr_punit_laws.specs.OneReading.{OneReading}
use Rattle.jr_bind.specs.Programs.{Program, units_of}
use Rattle.jr_rewrite.specs.Rewritten.{Rewritten}
use Rattle.jr_image_code.specs.KeysIn.{keys_by}
use Rattle.jr_images.specs.Regions.{Images}
use Rattle.jr_kept_rows.specs.Staying.{IsReadAs, IsKept, ExtractsKeepPrograms}
use Rattle.jr_kept_runs.specs.KeepsRuns.{KeepsFirstValues}
use Rattle.jr_kept_runs.specs.Laws.{sources_of}
use Rattle.jr_local.specs.Scopes.{same_images}
use Rattle.jr_rename_laws.specs.ImageLaws.{without_marks}
use Rattle.jr_session.specs.NewTexts.{with_edits}
use Rattle.jr_session.specs.Asked.{extract}
use Rattle.jr_session.specs.PlansRead.{ReadsSo, PlansRead}
use Rattle.jr_session.specs.Refactored.{IsPlan, Refactors}
use Rattle.jr_session.specs.Requests.{Request, images_by}
use Rattle.jr_session.specs.States.{State}
use Rattle.jr_session.proofs.KeptPrograms.{IsShown}
use Rattle.jr_session.proofs.NewTrees.{units_are, became, trees as new_trees}

module _ (one : OneReading Span) (s t : State) (ask : Request) (read : ReadsSo ask) (names : List (List ℕ)) (n : ℕ) (is : Refactors s ask names n t) where
  abbrev plan : IsPlan s ask is.edits n
  plan = is.whole.short.plan

  abbrev p : Program Span
  p = plan.p

  abbrev q : Program Span
  q = is.whole.q

  abbrev images : Images
  images = images_by ask p plan.text plan.number plan.planned.found

  trees : map without_marks (units_of q) ≡ map (λ (o : Rewritten (UnitTree Span)). without_marks o.tree) plan.planned.becomes.files
  trees = ap (map without_marks) (units_are (with_edits s.files is.edits) q is.whole.program)
      ∙ new_trees ask read s.files p plan.posed.program plan.posed.asked.name plan.text plan.number is.edits plan.renaming n plan.planned one is.whole.program.units is.whole.program.words is.whole.program.program.read

  is_read : IsReadAs p q plan.planned.becomes.files
  is_read = record { before = plan.posed.program.is; behind = is.whole.program.is; trees = trees }

  -- where no key and no row gets an image
  module _ (stay : images ≡ same_images p.rows) (keeps : IsReadAs p q plan.planned.becomes.files → IsKept p q)
      (own : ask.Keeps p plan.text plan.number plan.planned.found plan.planned.becomes.files is.edits plan.renaming q)
    where
      kept : IsKept p q
      kept = keeps is_read

      pub stay_shown : IsShown s t ask names n is
      stay_shown = record {
        trees = trees;
        rows = kept.rows ∙ sym (ap (λ (m : Images). m.rows) stay);
        dispatch = λ of m was goes.
            subst (λ (i : Images). DispatchesTo q.rows (i.class_to of) (i.method_to m) (i.method_to was)) (sym stay)
            (subst (λ (rows : List Row). DispatchesTo rows of m was) (sym kept.rows) goes);
        first_values = subst (λ (i : Images). KeepsFirstValues (keys_by i) (sources_of p) (sources_of q)) (sym stay) kept.first_values;
        own = own;
        fit = λ i old there.
            (let b = became ask read s.files p plan.posed.program plan.posed.asked.name plan.text plan.number is.edits plan.renaming n plan.planned i old there in
            (b.1, b.3, b.4.are, b.4.fits));
      }

-- ---- of each

pub extract_shown : OneReading Span → PlansRead → ExtractsKeepPrograms → (s t : State) (file : List ℕ) (from to : ℕ) (new : List ℕ) (names : List (List ℕ)) (n : ℕ) (is : Refactors s (extract file from to new) names n t) → IsShown s t (extract file from to new) names n is
extract_shown one read law s t file from to new names n is =
    stay_shown one s t (extract file from to new) (read.extracts file from to new) names n is refl
    (law is.whole.short.plan.p is.whole.q is.whole.short.plan.number from to new is.edits is.whole.short.plan.renaming n is.whole.short.plan.planned)
    tt
