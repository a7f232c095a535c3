-- What an edit would make of a file. Only private clauses cite this.
use Rattle.std.specs.Prelude.{◌≡◌, ℕ, ◌≤◌, List, slice_get, Some}
use Rattle.jr_text.specs.declared.spans.Span.{Span}
use Rattle.jr_text.specs.Spans.{CanCut}
use Rattle.jr_text.specs.Splices.{replaced}
use Rattle.jr_session.specs.declared.splices.Spliced.{Spliced}
use Rattle.jr_session.specs.declared.splices.Spliced.TheVariants as becomes
use Rattle.jr_sources.specs.Sources.{Source, texts_of, total_of, total_limit, with_text}
use Rattle.jr_session.specs.Lengths.{AreWithin, AreTooLong}

-- the text that the file of this number has
abbrev pub HasText : List Source → ℕ → List ℕ → Type 0
HasText sources number old = slice_get (texts_of sources) number ≡ Some old

-- it becomes this, and all texts stay within their limits
pub record CanBecome (sources : List Source) (number : ℕ) (span : Span)
    (text new : List ℕ) : Type 0 where
  pub old : List ℕ
  pub has : HasText sources number old
  pub cut : CanCut old span
  pub is : new ≡ replaced old span text
  pub within : AreWithin (texts_of (with_text sources number new))
  pub together : total_of (texts_of (with_text sources number new)) ≤ total_limit

pub record CanNotCut (sources : List Source) (number : ℕ) (span : Span) : Type 0 where
  pub old : List ℕ
  pub has : HasText sources number old
  pub cannot : CanCut old span → ⊥

pub record WouldBeTooLong (sources : List Source) (number : ℕ) (span : Span) (text : List ℕ)
    (len : ℕ) : Type 0 where
  pub old : List ℕ
  pub has : HasText sources number old
  pub cut : CanCut old span
  pub beyond : AreTooLong (texts_of (with_text sources number (replaced old span text))) len

abbrev pub IsSpliced : List Source → ℕ → Span → List ℕ → Spliced → Type 0
IsSpliced sources number span text (becomes.Text new) = CanBecome sources number span text new
IsSpliced sources number span text becomes.BadSpan = CanNotCut sources number span
IsSpliced sources number span text (becomes.TooLong len) =
    WouldBeTooLong sources number span text len
