-- How many members a step binds at most.
use Rattle.std.specs.Prelude.{◌≡◌, ℕ, ◌+◌, ◌≤◌, ◌⊎◌, List}
use Rattle.jr_text.specs.declared.spans.Span.{Span}
use Rattle.jr_ast.specs.MemberTree as syntax
use Rattle.jr_text.specs.Edits.{Entry}
use Rattle.jr_names.specs.declared.steps.Step.{Step}
use Rattle.jr_session.specs.States.{State}
use Rattle.jr_sources.specs.Analysed.{CostsBinding}
use Rattle.jr_sources.specs.FirstFault.{IsFirstFaultOf, AreProgram}
use Rattle.jr_sources.specs.MemberCount.{member_count}
use Rattle.jr_session.specs.NewTexts.{with_edits}
use Rattle.jr_session.specs.Refusing.{NeedsProgram}
use Rattle.jr_session.specs.Asked.{asks_of}
use Rattle.jr_session.specs.Refactored.{IsShort}
use Rattle.jr_session.specs.Requests.{Request, Asks, refactors, nothing}

-- A refactoring is planned and within the limits. Its new sources are bound besides: nothing of
-- them where they have a fault, else each of their members once at most.
pub record RebindsWithin (s : State) (ask : Request) (units : List (syntax.Unit Span))
    (before after : ℕ) : Type 0 where
  pub edits : List (List Entry)
  pub respelled : ℕ
  pub short : IsShort s ask edits respelled
  pub middle : ℕ
  pub first : middle ≤ before + member_count units
  pub again : CostsBinding (with_edits s.files edits) middle after

-- the members of the sources, each once at most; for a refactoring those of the new sources too
abbrev pub BindsBy : Asks → State → List (syntax.Unit Span) → (before after : ℕ) → Type 0
BindsBy (refactors ask) s units before after =
    (after ≤ before + member_count units) ⊎ RebindsWithin s ask units before after
BindsBy nothing s units before after = after ≤ before + member_count units

-- What is counted, one a member that is bound, was `before` and is `after`. Only a step that is
-- answered from a program binds, only where there is one, and then each member once at most.
pub record IsWithinWork (s : State) (of : Step) (before after : ℕ) : Type 0 where
  pub other : (NeedsProgram of → ⊥) → after ≡ before
  pub faulty : (file : List ℕ) (at : ℕ) (kind : List ℕ) → IsFirstFaultOf s.files file at kind
      → after ≡ before
  pub program : (units : List (syntax.Unit Span)) (words : List ℕ) → AreProgram s.files units words
      → BindsBy (asks_of of) s units before after
