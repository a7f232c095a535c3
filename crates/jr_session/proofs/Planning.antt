-- What is planned, from the plan's own clause.
use Rattle.std.proofs.Common.{◌≡◌, ℕ, ◌<◌, List, length, sym, ap, subst, ◌∙◌, arith}
use Rattle.std.specs.Prelude.{Option, Some, option_map, slice_get}
use Rattle.jr_text.specs.declared.spans.Span.{Span}
use Rattle.jr_text.specs.Edits.{Entry}
use Rattle.jr_sync.specs.declared.sites.DepKind.{DepKind}
use Rattle.jr_table.specs.Decls.{Decl}
use Rattle.jr_names.specs.Refusals.{Refusal}
use Rattle.jr_names.specs.RefusalView.{refusal_of}
use Rattle.jr_names.specs.Replies.{Outcome, planned, not_planned}
use Rattle.jr_names.specs.Sites.{SiteAt, DepPair}
use Rattle.jr_names.specs.SiteView.{pair_of}
use Rattle.jr_bind.specs.Programs.{File, Program}
use Rattle.jr_plan.specs.Reasons.{IsPlanned, IsRefused, TellsLost}
use Rattle.jr_sources.specs.Sources.{Source}
use Rattle.jr_sources.specs.Whole.{IsProgramOf}
use Rattle.jr_sources.proofs.AllRead.{element, text_there}
use Rattle.jr_sources.proofs.Analysing.{counts}
use Rattle.jr_sources.proofs.WholeProgram.{file_at, length-files}
use Rattle.jr_session.specs.declared.plans.Planned.{Planned}
use Rattle.jr_session.specs.declared.plans.Planned.TheVariants as plan
use Rattle.jr_session.specs.declared.plans.Asked.{Asked}
use Rattle.jr_session.specs.declared.plans.Asked.TheVariants as asked
use Rattle.jr_session.specs.Planning.{IsOfOutcome, IsPlannedSo}
use Rattle.jr_session.specs.Requests.{Request}
use Rattle.jr_session.specs.RequestView.{PlansBy, ask_by}
use Rattle.jr_session.specs.Splicing.{HasText}

module _ (sources : List Source) (p : Program Span) (is : IsProgramOf sources p) (number : ℕ) (within : number < length sources) where
  pub count : length p.files ≡ length sources
  count = ap length is.files ∙ length-files sources is.units (counts sources is.units is.words is.program.read).0

  pub file : (f : File Span) × (slice_get p.files number ≡ Some f) × HasText sources number f.text
  file =
      let n = count in
      let f = element p.files number (omega (arith, within, n)) in
      let s = file_at sources is.units is.words is.program.read number f.0 (ap (λ (l : List (File Span)). slice_get l number) (sym is.files) ∙ f.1) in
      (f.0, f.1, subst (HasText sources number) (sym s.4) (text_there sources number s.0 s.2))

  -- what is planned of the file's text, with what is crossed
  abbrev PlannedIn : Request → List (List Entry) → (renaming : List (Decl × Decl)) → ℕ → Option DepPair → Type 0
  PlannedIn ask edits renaming respelled lost = (is : IsPlanned p (ask.refactoring p file.0.text number) edits renaming respelled)
      × TellsLost ((ask.refactoring p file.0.text number).transform is.found).Crosses lost

  refuses : (name : List ℕ) (a : Asked) (r : Refusal) → PlansBy p number a (not_planned r) → IsRefused p ((ask_by name a).refactoring p file.0.text number) r
  refuses name (asked.Rename at new) r h = h file.0 file.1
  refuses name (asked.ExtractLocal from to new) r h = h

  plans : (name : List ℕ) (a : Asked) (edits : List (List Entry)) (renaming : List (Decl × Decl)) (respelled : ℕ) (lost : Option DepPair) → PlansBy p number a (planned edits renaming respelled lost) → PlannedIn (ask_by name a) edits renaming respelled lost
  plans name (asked.Rename at new) edits renaming respelled lost h =
      let is = h.1 file.0 file.1 in
      (is, subst (TellsLost (λ (k : DepKind) (i j : SiteAt). ⊥)) (sym h.0) (λ kind first second pair. pair))
  plans name (asked.ExtractLocal from to new) edits renaming respelled lost h = h

  pub so_planned : (name : List ℕ) (a : Asked) (o : Outcome) → PlansBy p number a o → (r : Planned) → IsOfOutcome o r → IsPlannedSo sources (ask_by name a) number r
  so_planned name a o h (plan.Wrong fault) e = absurd e
  so_planned name a o h (plan.Refused r) e =
      record { p = p; program = is; text = file.0.text; has = file.2; refused = refuses name a (refusal_of r) (subst (PlansBy p number a) e h) }
  so_planned name a o h (plan.Edits edits respelled lost) (renaming, e) =
      let are = plans name a edits renaming respelled (option_map pair_of lost) (subst (PlansBy p number a) e h) in
      record { p = p; program = is; text = file.0.text; has = file.2; renaming = renaming; planned = are.0; tells = are.1 }
