-- The states behind a refactoring, from what its body finds.
use Rattle.std.proofs.Common.{◌≡◌, ℕ, List, [], ◌∷◌, ◌++◌, length, refl, sym, ap, subst, ◌∙◌, inl, inr}
use Rattle.std.specs.List.{slice_get}
use Rattle.std.specs.Prelude.{Bool, true, false, not, Option, Some, None, is_some}
use Rattle.std.proofs.lemmas.Option.{same_Some}
use Rattle.jr_text.specs.Edits.{Entry}
use Rattle.jr_names.specs.Refusals.{would_not_compile, too_long}
use Rattle.jr_names.specs.Replies.{Reply, refactored, refused}
use Rattle.jr_names.specs.Sites.{DepPair}
use Rattle.jr_sources.specs.declared.analyses.Analysis.{Analysis}
use Rattle.jr_sources.specs.declared.analyses.SourceFault.{SourceFault}
use Rattle.jr_sources.specs.declared.kept.Readings.{Readings}
use Rattle.jr_sources.specs.Analysed.{IsAnalysis, CostsBinding}
use Rattle.jr_sources.specs.BindingErrors.{AreSound, IsFirstWrong}
use Rattle.jr_sources.specs.KeptReadings.{AreReadings}
use Rattle.jr_sources.specs.ReadingLaws.{HasOneReading}
use Rattle.jr_sources.specs.Sources.{Source, HasName, texts_of}
use Rattle.jr_sources.proofs.Analysing.{no_fault}
use Rattle.jr_session.specs.declared.changes.Change.{Change}
use Rattle.jr_session.specs.declared.changes.Earlier.{Earlier}
use Rattle.jr_session.specs.declared.made.Made.TheVariants as makes
use Rattle.jr_session.specs.declared.tries.Tried.TheVariants as tries
use Rattle.jr_session.specs.Changes.{put_back, AreChanges}
use Rattle.jr_session.specs.Kept.{IsKept}
use Rattle.jr_session.specs.Making.{IsMade}
use Rattle.jr_session.specs.NewTexts.{with_edits, differing}
use Rattle.jr_session.specs.Refactoring as by
use Rattle.jr_session.specs.declared.refactorings.Changed.TheVariants as changed
use Rattle.jr_session.specs.Refactoring.{loses, IsChangedBy, IsTriedBy, StayWithin, IsRefactoredBy, CostsRefactoring}
use Rattle.jr_session.specs.States.{State}
use Rattle.jr_session.specs.Trying.{IsTried, AreSomeProgram, AreWhole}
use Rattle.jr_session.specs.Turns.{IsChanged}
use Rattle.jr_session.proofs.Histories.{names-put}
use Rattle.jr_session.proofs.StateLaws.{state_of, state_as_before, refactored_state, kept_changed}

-- ---- a refactoring's reply

module _ (s : State) (news : List Source) (names : List (List ℕ)) (respelled : ℕ) (lost : Option DepPair) where
  pub reply_wrong : (f : SourceFault) (may_stay : Bool) (t : State) → IsChangedBy s news may_stay (changed.Wrong f) t → (r : Reply) → r ≡ refused (would_not_compile (record { file = f.file; at = f.at }) f.kind.now) → IsTriedBy s news names respelled lost r t
  reply_wrong f may_stay t h r e = by.breaks f.file f.at h.1 f.kind.now h.2 h.3 e h.0

  pub reply_crossed : (may_stay : Bool) (t : State) → IsChangedBy s news may_stay changed.Crossed t → (pair : DepPair) → lost ≡ Some pair → (r : Reply) → r ≡ refused (loses pair) → IsTriedBy s news names respelled lost r t
  reply_crossed may_stay t h pair is r e = by.crosses pair is h.2 e h.0

  pub reply_done : (may_stay : Bool) (t : State) → IsChangedBy s news may_stay changed.Done t → lost ≡ None → (r : Reply) → r ≡ refactored names respelled → IsTriedBy s news names respelled lost r t
  reply_done may_stay t h none r e = by.holds none h.2 e h.0

-- ---- whether a dependence is lost

pub none_left : {X : Type 0} (lost : Option X) (may_stay : Bool) → is_some lost ≡ not may_stay → may_stay ≡ true → lost ≡ None
none_left None may_stay e stays = refl
none_left (Some x) may_stay e stays = (let none : true ≡ false = e ∙ ap not stays in absurd cc)

pub some_lost : {X : Type 0} (lost : Option X) (may_stay : Bool) → is_some lost ≡ not may_stay → may_stay ≡ false → lost ≡ None → ⊥
some_lost None may_stay e goes none = (let some : false ≡ true = e ∙ ap not goes in cc)
some_lost (Some x) may_stay e goes none = cc

-- ---- new texts that were tried

-- nothing is wrong with analysed sources of which no member breaks a rule
nothing_wrong : HasOneReading → (ss : List Source) (a : Analysis) → IsAnalysis ss a → AreSound ss → (name : List ℕ) (place : ℕ) (kind : List ℕ) → IsFirstWrong ss name place kind → ⊥
nothing_wrong reading ss a is sound name place kind (inl h) = no_fault reading ss is.units is.words is.program name place kind h
nothing_wrong reading ss a is sound name place kind (inr h) = sound h.0 place h.1 h.3.has

pub whole_of : HasOneReading → (ss : List Source) (a : Analysis) → IsAnalysis ss a → AreSound ss → AreSomeProgram ss → AreWhole ss
whole_of reading ss a is sound some = record { some = some; right = nothing_wrong reading ss a is sound }

module _ (sources sources' : List Source) (changes : List Change) (may_stay : Bool) (undo undo' redo redo' : List Earlier) (shown : ℕ) where
  pub tried_wrong : (f : SourceFault) → IsTried sources changes may_stay sources' (tries.Wrong f) → undo' ≡ undo → redo' ≡ redo
      → IsChangedBy (state_of sources undo redo shown) (put_back sources changes) may_stay (changed.Wrong f) (state_of sources' undo' redo' shown)
  tried_wrong f h u d =
      let named : HasName sources f.file h.1.name = subst (λ (ns : List (List ℕ)). slice_get ns f.file ≡ Some h.1.name) (names-put sources changes) h.1.named in
      (state_as_before sources sources' undo undo' redo redo' shown h.0 u d, h.1.name, named, h.1.first)

  pub tried_crossed : IsTried sources changes may_stay sources' tries.Crossed → undo' ≡ undo → redo' ≡ redo
      → IsChangedBy (state_of sources undo redo shown) (put_back sources changes) may_stay changed.Crossed (state_of sources' undo' redo' shown)
  tried_crossed h u d = (state_as_before sources sources' undo undo' redo redo' shown h.0 u d, h.1, h.2)

  module _ (analysis : Analysis) (step : Earlier) (h : IsTried sources changes may_stay sources' (tries.Sound analysis step.changes)) (kept : undo' ≡ undo ++ step ∷ []) (none : redo' ≡ []) where
    is_changed : IsChanged sources undo (put_back sources changes) sources' undo'
    is_changed = record { was = step; are = h.0; back = h.1; files = h.2; kept = kept }

    pub tried_sound : HasOneReading → AreSomeProgram sources' → IsChangedBy (state_of sources undo redo shown) (put_back sources changes) may_stay changed.Done (state_of sources' undo' redo' shown)
    tried_sound reading some =
        (refactored_state sources (put_back sources changes) sources' undo undo' redo redo' shown is_changed none, h.5, subst AreWhole h.0 (whole_of reading sources' analysis h.3 h.4 some))

    pub tried_kept : (readings : Readings) → AreReadings (texts_of sources') readings → AreChanges (length sources) undo → IsKept sources' readings undo' redo' (Some analysis)
    tried_kept readings reads were =
        let k = kept_changed sources (put_back sources changes) sources' readings undo undo' redo' is_changed none were reads in
        record {
          readings = k.readings;
          undo = k.undo;
          redo = k.redo;
          analysed = λ a e. subst (IsAnalysis sources') (same_Some analysis a e) h.3;
        }

-- ---- what edits make

module _ (s : State) (edits : List (List Entry)) (respelled : ℕ) where
  pub made_long : (lost : Option DepPair) (len : ℕ) → IsMade s.files edits (makes.TooLong len) → IsRefactoredBy s edits respelled lost (refused (too_long len)) s
  made_long lost len h = by.long len h refl refl

module _ (sources : List Source) (edits : List (List Entry)) (changes : List Change) (names : List (List ℕ)) (news : put_back sources changes ≡ with_edits sources edits) (stay : StayWithin sources edits) where
  pub made_costs : (before after : ℕ) → CostsBinding (put_back sources changes) before after → CostsRefactoring sources edits before after
  made_costs before after h = by.tries stay (subst (λ (ss : List Source). CostsBinding ss before after) news h)

pub made_tried : (s : State) (edits : List (List Entry)) (changes : List Change) (names : List (List ℕ)) (respelled : ℕ) → put_back s.files changes ≡ with_edits s.files edits → names ≡ differing s.files (with_edits s.files edits) → StayWithin s.files edits
    → (lost : Option DepPair) (r : Reply) (t : State) → IsTriedBy s (put_back s.files changes) names respelled lost r t → IsRefactoredBy s edits respelled lost r t
made_tried s edits changes names respelled news named stay lost r t h =
    by.tried stay (subst (λ (ns : List (List ℕ)). IsTriedBy s (with_edits s.files edits) ns respelled lost r t) named (subst (λ (ss : List Source). IsTriedBy s ss names respelled lost r t) news h))
