-- That each layout is one alone.
use Rattle.std.specs.Prelude.{◌≡◌, ℕ, List}
use Rattle.jr_text.specs.declared.spans.Span.{Span}
use Rattle.jr_layout.specs.declared.lines.LineEnd.{LineEnd}
use Rattle.jr_layout.specs.Lines.{IsLineEndOf}
use Rattle.jr_layout.specs.Layouts.{IsGap, IsClassEnd, IsRemoval, IsWithBlank}

abbrev pub HasOneLineEnd : Type 0
HasOneLineEnd = (bytes : List ℕ) (one other : LineEnd)
    → IsLineEndOf bytes one → IsLineEndOf bytes other → one ≡ other

abbrev pub HasOneGap : Type 0
HasOneGap = (bytes : List ℕ) (at : ℕ) (one other : List ℕ)
    → IsGap bytes at one → IsGap bytes at other → one ≡ other

abbrev pub HasOneClassEnd : Type 0
HasOneClassEnd = (bytes : List ℕ) (at : ℕ) (member one other : List ℕ)
    → IsClassEnd bytes at member one → IsClassEnd bytes at member other → one ≡ other

abbrev pub HasOneRemoval : Type 0
HasOneRemoval = (bytes : List ℕ) (span one other : Span)
    → IsRemoval bytes span one → IsRemoval bytes span other → one ≡ other

abbrev pub HasOneBlank : Type 0
HasOneBlank = (bytes : List ℕ) (span one other : Span)
    → IsWithBlank bytes span one → IsWithBlank bytes span other → one ≡ other
