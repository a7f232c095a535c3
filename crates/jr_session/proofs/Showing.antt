-- A show's step and its work, for the state that sources and changes stand for.
use Rattle.std.proofs.Common.{◌≡◌, ℕ, ◌+◌, ◌<◌, ◌≤◌, List, refl, sym, ap, subst, ◌∙◌, arith}
use Rattle.std.specs.Prelude.{Some}
use Rattle.jr_names.specs.Replies.{Reply, refused, shown as shown_reply}
use Rattle.jr_names.specs.Refusals.{source_error, report_full, too_many_sites}
use Rattle.jr_names.specs.declared.steps.What.{What}
use Rattle.jr_names.specs.declared.steps.What.TheVariants as what
use Rattle.jr_table.specs.Decls.{MemberKey}
use Rattle.jr_lines.specs.Lines.{bytes_of}
use Rattle.jr_sources.specs.declared.analyses.Analysis.{Analysis}
use Rattle.jr_session.specs.declared.changes.Earlier.{Earlier}
use Rattle.jr_sources.specs.declared.analyses.SourceFault.{SourceFault}
use Rattle.jr_sources.specs.Analysed.{IsAnalysis, IsSourceFault, CostsBinding}
use Rattle.jr_sources.specs.FirstFault.{IsFirstFaultOf}
use Rattle.jr_session.specs.Dependences.{IsLargeMember}
use Rattle.jr_session.specs.Shows.{AreShownTexts, shown_limit}
use Rattle.jr_sources.specs.ReadingLaws.{HasOneReading}
use Rattle.jr_session.specs.Refusing.{MeetsLarge}
use Rattle.jr_sources.specs.Sources.{Source, HasName, IsFile, Differ, texts_of}
use Rattle.jr_session.specs.States.{State}
use Rattle.jr_session.specs.Stepping.{Steps}
use Rattle.jr_session.specs.StepLaws.{HasOneShow}
use Rattle.jr_session.specs.Work.{IsWithinWork}
use Rattle.jr_sources.proofs.AllRead.{element}
use Rattle.jr_sources.proofs.Analysing.{no_fault}
use Rattle.jr_session.proofs.EditLaws.{file_of}
use Rattle.jr_session.proofs.SessionSteps.{number_within}
use Rattle.jr_session.proofs.ShowSteps.{the_show, show_fault, show_full, show_large, shown_step, bindings_small, lines_small}
use Rattle.jr_sources.proofs.SourceLaws.{length-texts}
use Rattle.jr_session.proofs.StateLaws.{state_of}

pub one_name : (ss : List Source) (i : ℕ) (a b : List ℕ) → HasName ss i a → HasName ss i b → a ≡ b
one_name ss i a b g h = let e : Some a ≡ Some b = sym g ∙ h in cc

pub work_of : (s : State) (file : List ℕ) (of : What) (before after : ℕ) → CostsBinding s.files before after → IsWithinWork s (the_show file of) before after
work_of s file of before after h = record { other = λ f. absurd (f tt); faulty = h.faulty; program = h.program }

module _ (sources : List Source) (undo redo : List Earlier) (count : ℕ) (file : List ℕ) (number : ℕ) (named : HasName sources number file) where
  there : (text : List ℕ) × IsFile sources number file text
  there =
      let lt = number_within sources number file named in
      let n = length-texts sources in
      let t = element (texts_of sources) number (omega (arith, lt, n)) in
      (t.0, file_of sources number file t.0 named t.1)

  pub fault_step : (of : What) (name : List ℕ) (at : ℕ) (kind : List ℕ) → IsFirstFaultOf sources name at kind → Steps (state_of sources undo redo count) (the_show file of) (refused (source_error name at kind)) (state_of sources undo redo count)
  fault_step of name at kind fault = (show_fault (state_of sources undo redo count) file there.0 of number there.1 name at kind fault, refl)

  -- the same, for a fault that is kept
  pub fault_reply : (of : What) (f : SourceFault) → IsSourceFault sources f → (name : List ℕ) → HasName sources f.file name → (r : Reply) → r ≡ refused (source_error name f.at f.kind.now) → Steps (state_of sources undo redo count) (the_show file of) r (state_of sources undo redo count)
  fault_reply of f is name has r e =
      let fault : IsFirstFaultOf sources name f.at f.kind.now = subst (λ n. IsFirstFaultOf sources n f.at f.kind.now) (one_name sources f.file is.name name is.named has) is.first in
      subst (λ q. Steps (state_of sources undo redo count) (the_show file of) q (state_of sources undo redo count)) (sym e) (fault_step of name f.at f.kind.now fault)

  module _ (differ : Differ sources) (reading : HasOneReading) (once : HasOneShow) (a : Analysis) (is : IsAnalysis sources a) where
    clean : (name : List ℕ) (at : ℕ) (kind : List ℕ) → IsFirstFaultOf sources name at kind → ⊥
    clean = no_fault reading sources is.units is.words is.program

    -- no member is too large for the lines of a show
    small : (of : What) (lines : List (List ℕ)) → AreShownTexts sources number of lines → (k : MemberKey) (n : ℕ) → MeetsLarge (state_of sources undo redo count) (the_show file of) k n → ⊥
    small what.Bindings lines are = bindings_small (state_of sources undo redo count) file
    small what.Dependences lines are = lines_small (state_of sources undo redo count) file there.0 number there.1 differ once lines are

    module _ (of : What) (lines : List (List ℕ)) (are : AreShownTexts sources number of lines) where
      pub full_step : (len : ℕ) → shown_limit < len → len ≡ count + bytes_of lines → Steps (state_of sources undo redo count) (the_show file of) (refused (report_full len)) (state_of sources undo redo count)
      full_step len beyond e = (show_full (state_of sources undo redo count) file there.0 of number there.1 clean lines are (small of lines are) len (subst (λ n. shown_limit < n) e beyond) e, refl)

      pub lines_step : (len : ℕ) → len ≤ shown_limit → len ≡ count + bytes_of lines → Steps (state_of sources undo redo count) (the_show file of) (shown_reply lines) (state_of sources undo redo len)
      lines_step len within e = shown_step (state_of sources undo redo count) file there.0 of number there.1 clean lines are (small of lines are) differ once (state_of sources undo redo len) (subst (λ n. n ≤ shown_limit) e within) (ap (state_of sources undo redo) e)

    pub large_step : (member : MemberKey) (n : ℕ) → IsLargeMember sources number member n → Steps (state_of sources undo redo count) (the_show file what.Dependences) (refused (too_many_sites member n)) (state_of sources undo redo count)
    large_step member n large = (show_large (state_of sources undo redo count) file there.0 what.Dependences number there.1 clean refl member n large, refl)
