-- What comes of a refactoring's edits, whatever planned them. Only private clauses cite this.
use Rattle.std.specs.Prelude.{◌≡◌, ℕ, ◌≤◌, List, Bool, true, false, Option, Some, None}
use Rattle.jr_text.specs.declared.spans.Span.{Span}
use Rattle.jr_text.specs.Edits.{Entry}
use Rattle.jr_names.specs.Refusals.{Refusal, would_not_compile, too_long, lost_dependence}
use Rattle.jr_names.specs.Replies.{Reply, refactored, refused}
use Rattle.jr_names.specs.Sites.{DepPair}
use Rattle.jr_sources.specs.Analysed.{CostsBinding}
use Rattle.jr_sources.specs.BindingErrors.{IsFirstWrong}
use Rattle.jr_sources.specs.Sources.{Source, HasName, texts_of, total_of, total_limit}
use Rattle.jr_session.specs.Lengths.{AreWithin, AreTooLong}
use Rattle.jr_session.specs.NewTexts.{with_edits, differing, with_files}
use Rattle.jr_session.specs.declared.refactorings.Changed.{Changed}
use Rattle.jr_session.specs.declared.refactorings.Changed.TheVariants as changed
use Rattle.jr_session.specs.States.{State}
use Rattle.jr_session.specs.Trying.{AreWhole}

-- the refusal that tells the pair
abbrev pub loses : DepPair → Refusal
loses pair = lost_dependence pair.kind pair.first pair.second

-- What comes of new sources: what is first wrong with them, and nothing changes; or nothing is
-- wrong, but they may not stay, and nothing changes; or they are there.
abbrev pub IsChangedBy : (s : State) → (news : List Source) → (may_stay : Bool) → Changed
    → State → Type 0
IsChangedBy s news may_stay (changed.Wrong fault) t =
    (t ≡ s) × (name : List ℕ) × HasName s.files fault.file name
    × IsFirstWrong news name fault.at fault.kind.now
IsChangedBy s news may_stay changed.Crossed t = (t ≡ s) × (may_stay ≡ false) × AreWhole news
IsChangedBy s news may_stay changed.Done t =
    (t ≡ with_files s news) × (may_stay ≡ true) × AreWhole news

-- new sources are refused for what is first wrong with them, and nothing changes; or nothing is
-- wrong, and they are refused for the dependence that is lost, and nothing changes; or none is
-- lost, they are a program, and they are there
pub data IsTriedBy (s : State) (news : List Source) (names : List (List ℕ)) (respelled : ℕ)
    (lost : Option DepPair) (reply : Reply) (t : State) : Type 0 where
  breaks : (number place : ℕ) (name kind : List ℕ) → HasName s.files number name
      → IsFirstWrong news name place kind
      → reply ≡ refused (would_not_compile (record { file = number; at = place }) kind) → t ≡ s
      → IsTriedBy s news names respelled lost reply t
  crosses : (pair : DepPair) → lost ≡ Some pair → AreWhole news
      → reply ≡ refused (loses pair) → t ≡ s
      → IsTriedBy s news names respelled lost reply t
  holds : lost ≡ None → AreWhole news → reply ≡ refactored names respelled
      → t ≡ with_files s news
      → IsTriedBy s news names respelled lost reply t

-- the new texts stay within the limits
pub record StayWithin (sources : List Source) (edits : List (List Entry)) : Type 0 where
  pub within : AreWithin (texts_of (with_edits sources edits))
  pub together : total_of (texts_of (with_edits sources edits)) ≤ total_limit

-- the edits are refused for the length of their texts, or these are tried
pub data IsRefactoredBy (s : State) (edits : List (List Entry)) (respelled : ℕ)
    (lost : Option DepPair) (reply : Reply) (t : State) : Type 0 where
  long : (len : ℕ) → AreTooLong (texts_of (with_edits s.files edits)) len
      → reply ≡ refused (too_long len) → t ≡ s → IsRefactoredBy s edits respelled lost reply t
  tried : StayWithin s.files edits
      → IsTriedBy s (with_edits s.files edits)
      (differing s.files (with_edits s.files edits)) respelled lost reply t
      → IsRefactoredBy s edits respelled lost reply t

-- members are bound only where the new texts stay within the limits: those of the new program
pub data CostsRefactoring (sources : List Source) (edits : List (List Entry)) (before after : ℕ)
    : Type 0 where
  nothing : after ≡ before → CostsRefactoring sources edits before after
  tries : StayWithin sources edits → CostsBinding (with_edits sources edits) before after
      → CostsRefactoring sources edits before after
