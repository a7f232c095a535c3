-- The steps of a refactoring, from what its body finds.
use Rattle.std.proofs.Common.{◌≡◌, ℕ, suc, ◌<◌, List, [], ◌∷◌, length, refl, sym, ap, subst, ◌∙◌, inl, inr, arith}
use Rattle.std.specs.List.{slice_get}
use Rattle.std.specs.Prelude.{◌⊎◌, Option, Some, None}
use Rattle.std.proofs.lemmas.List.{length-map}
use Rattle.std.proofs.lemmas.Option.{same_Some, none-some, slice_get_within}
use Rattle.jr_text.specs.declared.spans.Span.{Span}
use Rattle.jr_text.specs.Edits.{Entry, FitsIn}
use Rattle.jr_ast.specs.MemberTree as syntax
use Rattle.jr_sync.specs.declared.sites.DepKind.{DepKind}
use Rattle.jr_names.specs.Refusals.{Refusal, no_such_file, source_error}
use Rattle.jr_names.specs.Replies.{Reply, refused}
use Rattle.jr_names.specs.Sites.{SiteAt, DepPair}
use Rattle.jr_bind.specs.Programs.{File, units_of}
use Rattle.jr_rewrite.specs.Rewritten.{Rewritten}
use Rattle.jr_rewrite.specs.Edited.{entries_of}
use Rattle.jr_plan.specs.Reasons.{TellsLost}
use Rattle.jr_sources.specs.declared.analyses.SourceFault.{SourceFault}
use Rattle.jr_sources.specs.Analysed.{IsSourceWrong, CostsBinding}
use Rattle.jr_sources.specs.BindingErrors.{IsFirstWrong}
use Rattle.jr_sources.specs.FirstFault.{IsFirstFaultOf, AreProgram}
use Rattle.jr_sources.specs.ReadingLaws.{HasOneReading}
use Rattle.jr_sources.specs.Sources.{Source, HasName, LacksFile, IsFile}
use Rattle.jr_sources.proofs.AllRead.{text_there}
use Rattle.jr_sources.proofs.Analysing.{no_fault}
use Rattle.jr_names.specs.declared.steps.Step.TheVariants as step
use Rattle.jr_session.specs.declared.plans.Asked.{Asked}
use Rattle.jr_session.specs.declared.plans.Asked.TheVariants as asked
use Rattle.jr_session.specs.States.{State}
use Rattle.jr_session.specs.Making.{Fit}
use Rattle.jr_session.specs.Planning.{IsNotPlanned, ArePlanned}
use Rattle.jr_session.specs.NewTexts.{with_edits}
use Rattle.jr_session.specs.PlansRead.{ReadsSo, PlansRead}
use Rattle.jr_session.specs.Refactoring as by
use Rattle.jr_session.specs.Refactoring.{StayWithin, IsRefactoredBy, CostsRefactoring}
use Rattle.jr_session.specs.Asked.{rename, extract}
use Rattle.jr_session.specs.Refactored as why
use Rattle.jr_session.specs.Refactored.{IsAsked, IsPlan, IsShort, IsWhole, transform_of, RefusesRefactoring, Refactors}
use Rattle.jr_session.specs.Requests.{Request, CannotBeAsked, IsGoodName, refactors}
use Rattle.jr_session.specs.RequestView.{step_by, ask_by}
use Rattle.jr_session.specs.Splicing.{HasText}
use Rattle.jr_session.specs.Stepping.{Steps}
use Rattle.jr_session.specs.Trying.{AreWhole}
use Rattle.jr_session.specs.Work.{IsWithinWork, BindsBy}
use Rattle.jr_session.proofs.AskedSteps.{StepsBy, from_asks, asked as as_asked}
use Rattle.jr_session.proofs.EditLaws.{text_of_file}
use Rattle.jr_session.proofs.NewTrees.{many_units}
use Rattle.jr_session.proofs.Planning.{count, file as file_there}
use Rattle.jr_session.proofs.Showing.{one_name}

-- ---- a step by what it asks

-- what it binds
pub record WorksBy (s : State) (ask : Request) (before after : ℕ) : Type 0 where
  pub faulty : (file : List ℕ) (at : ℕ) (kind : List ℕ) → IsFirstFaultOf s.files file at kind → after ≡ before
  pub program : (units : List (syntax.Unit Span)) (words : List ℕ) → AreProgram s.files units words → BindsBy (refactors ask) s units before after

pub steps_by : (s : State) (file : List ℕ) (a : Asked) (r : Reply) (t : State) → StepsBy s (ask_by file a) r t → Steps s (step_by file a) r t
steps_by s file (asked.Rename at new) r t h = from_asks s (step.Rename file at new.now) r t (as_asked s (step.Rename file at new.now) (rename file at new.now) r t h)
steps_by s file (asked.ExtractLocal from to new) r t h = from_asks s (step.ExtractLocal file from to new.now) r t (as_asked s (step.ExtractLocal file from to new.now) (extract file from to new.now) r t h)

pub works_by : (s : State) (file : List ℕ) (a : Asked) (before after : ℕ) → WorksBy s (ask_by file a) before after → IsWithinWork s (step_by file a) before after
works_by s file (asked.Rename at new) before after h = record { other = λ f. absurd (f tt); faulty = h.faulty; program = h.program }
works_by s file (asked.ExtractLocal from to new) before after h = record { other = λ f. absurd (f tt); faulty = h.faulty; program = h.program }

pub reads_by : PlansRead → (file : List ℕ) (a : Asked) → ReadsSo (ask_by file a)
reads_by law file (asked.Rename at new) = law.renames file at new.now
reads_by law file (asked.ExtractLocal from to new) = law.extracts file from to new.now

-- ---- the edits of a plan fit

fit_all : (ss : List Source) (es : List (List Entry)) → length es ≡ length ss → ((i : ℕ) (s : Source) → slice_get ss i ≡ Some s → (e : List Entry) × (slice_get es i ≡ Some e) × FitsIn s.text e) → Fit ss es
fit_all [] [] n h = tt
fit_all [] (e ∷ es) n h = absurd (omega (arith, n))
fit_all (s ∷ ss) [] n h = absurd (omega (arith, n))
fit_all (s ∷ ss) (e ∷ es) n h =
    let first = h 0 s refl in
    (subst (FitsIn s.text) (sym (same_Some e first.0 first.1)) first.2, fit_all ss es (omega (arith, n)) (λ i x at. h (suc i) x at))

module _ (sources : List Source) (ask : Request) (read : ReadsSo ask) (name : IsGoodName ask.name) (number : ℕ) (edits : List (List Entry)) (respelled : ℕ) (lost : Option DepPair) (plan : ArePlanned sources ask number edits respelled lost) (within : number < length sources) where
  many_edits : length edits ≡ length sources
  many_edits =
      ap length plan.planned.edits_are
      ∙ length-map plan.planned.becomes.files (λ (o : Rewritten (syntax.Unit Span)). entries_of o.changes)
      ∙ many_units _ _ _ (units_of plan.p) plan.planned.becomes.files plan.planned.becomes.rewritten
      ∙ length-map plan.p.files (λ (f : File Span). f.unit)
      ∙ count sources plan.p plan.program number within

  pub fit_planned : Fit sources edits
  fit_planned = fit_all sources edits many_edits (λ i s there.
      let lt = slice_get_within sources i s there in
      let f = file_there sources plan.p plan.program i lt in
      let r = read plan.p plan.text number edits plan.renaming respelled plan.program.is name plan.planned i f.0 f.1 in
      let same : f.0.text ≡ s.text = same_Some f.0.text s.text (sym f.2 ∙ text_there sources i s there) in
      (r.1, r.3, subst (λ (t : List ℕ). FitsIn t r.1) same r.4.fits))

-- ---- its steps

module _ (s : State) (ask : Request) where
  pub missing_step : LacksFile s.files ask.file → StepsBy s ask (refused (no_such_file ask.file)) s
  missing_step lacks = (why.no_file lacks refl, refl)

  pub unasked_step : (number : ℕ) (text : List ℕ) → IsFile s.files number ask.file text → (r : Refusal) → CannotBeAsked ask.file text ask.places ask.name r → StepsBy s ask (refused r) s
  unasked_step number text stands r (inl h) = (why.at_no_place number h.0 text stands h.1 h.2, refl)
  unasked_step number text stands r (inr h) = (why.no_name number text h.0 stands h.1 h.2 h.3, refl)

  -- nothing is bound
  pub no_work : (n : ℕ) → WorksBy s ask n n
  no_work n = record { faulty = λ name place kind h. refl; program = λ units words p. inl (omega arith) }

  pub analysed_work : (before after : ℕ) → CostsBinding s.files before after → WorksBy s ask before after
  analysed_work before after h = record { faulty = h.faulty; program = λ units words p. inl (h.program units words p) }

  module _ (number : ℕ) (asks : (text : List ℕ) × IsAsked s ask number text) where
    pub wrong_step : (f : SourceFault) → IsSourceWrong s.files f → (name : List ℕ) → HasName s.files f.file name → (r : Reply) → r ≡ refused (source_error name f.at f.kind.now) → StepsBy s ask r s
    wrong_step f is name has r e =
        let first : IsFirstWrong s.files name f.at f.kind.now = subst (λ (n : List ℕ). IsFirstWrong s.files n f.at f.kind.now) (one_name s.files f.file is.name name is.named has) is.first in
        subst (λ (q : Reply). StepsBy s ask q s) (sym e) (why.wrong number asks.0 name f.at f.kind.now asks.1 first refl, refl)

    asked_of : (text : List ℕ) → HasText s.files number text → IsAsked s ask number text
    asked_of text has =
        let same : asks.0 ≡ text = same_Some asks.0 text (sym (text_of_file s.files number ask.file asks.0 asks.1.stands) ∙ has) in
        subst (λ (t : List ℕ). IsAsked s ask number t) same asks.1

    pub refused_step : (r : Refusal) → IsNotPlanned s.files ask number r → StepsBy s ask (refused r) s
    refused_step r h = (why.by_plan h.p number h.text (record { asked = asked_of h.text h.has; program = h.program }) h.refused, refl)

    module _ (edits : List (List Entry)) (respelled : ℕ) (lost : Option DepPair) (plan : ArePlanned s.files ask number edits respelled lost) where
      abbrev the_plan : IsPlan s ask edits respelled
      the_plan = record { p = plan.p; number = number; text = plan.text; posed = record { asked = asked_of plan.text plan.has; program = plan.program }; renaming = plan.renaming; planned = plan.planned }

      abbrev short : StayWithin s.files edits → IsShort s ask edits respelled
      short h = record { plan = the_plan; within = h.within; together = h.together }

      abbrev whole : StayWithin s.files edits → AreWhole (with_edits s.files edits) → IsWhole s ask edits respelled
      whole h w = record { short = short h; sound = w.right; q = w.some.0; program = w.some.1 }

      abbrev Crosses : DepKind → SiteAt → SiteAt → Type 0
      Crosses = (transform_of s ask the_plan).Crosses

      pair_crosses : (pair : DepPair) → lost ≡ Some pair → Crosses pair.kind pair.first pair.second
      pair_crosses pair e = subst (TellsLost Crosses) e plan.tells

      none_crosses : lost ≡ None → (kind : DepKind) (first second : SiteAt) → Crosses kind first second → ⊥
      none_crosses e = subst (TellsLost Crosses) e plan.tells

      pub refactored_step : (r : Reply) (t : State) → IsRefactoredBy s edits respelled lost r t → StepsBy s ask r t
      refactored_step r t (by.long len too e same) =
          subst (λ (q : Reply). StepsBy s ask q t) (sym e) (why.long edits respelled len the_plan too refl, same)
      refactored_step r t (by.tried stay (by.breaks number' place name kind has first e same)) =
          subst (λ (q : Reply). StepsBy s ask q t) (sym e) (why.breaks edits respelled number' place name kind (short stay) has first refl, same)
      refactored_step r t (by.tried stay (by.crosses pair is w e same)) =
          subst (λ (q : Reply). StepsBy s ask q t) (sym e) (why.crosses edits respelled (whole stay w) pair.kind pair.first pair.second (pair_crosses pair is) refl, same)
      refactored_step r t (by.tried stay (by.holds none w e becomes)) =
          subst (λ (q : Reply). StepsBy s ask q t) (sym e)
          (record { edits = edits; whole = whole stay w; dependences = none_crosses none; names_are = refl; becomes = becomes })

      pub refactored_work : HasOneReading → (before middle after : ℕ) → CostsBinding s.files before middle → CostsRefactoring s.files edits middle after → WorksBy s ask before after
      refactored_work reading before middle after h (by.nothing e) = subst (λ (n : ℕ). WorksBy s ask before n) (sym e) (analysed_work before middle h)
      refactored_work reading before middle after h (by.tries stay cost) = record {
        faulty = λ name place kind f. absurd (no_fault reading s.files plan.program.units plan.program.words plan.program.program name place kind f);
        program = λ units words p. inr (record {
          edits = edits;
          respelled = respelled;
          short = short stay;
          middle = middle;
          first = h.program units words p;
          again = cost;
        });
      }
