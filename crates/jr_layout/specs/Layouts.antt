-- What is put beside a statement, a member or the brace of a class, and what goes with something
-- that is removed.
use Rattle.std.specs.Prelude.{◌≡◌, ℕ, ◌<◌, ◌≤◌, ◌⊎◌, List, [], ◌∷◌, ◌++◌}
use Rattle.jr_text.specs.declared.spans.Span.{Span}
use Rattle.jr_text.specs.Spans.{part_of}
use Rattle.jr_layout.specs.declared.lines.LineEnd.{LineEnd}
use Rattle.jr_layout.specs.Lines.{HasByte, line_end_bytes, IsLineEndOf, IsIndent, IsFirstOnLine}
use Rattle.jr_layout.specs.Lines.{IsLastOnLine}

-- a new line with the indent of what stands at the place: the text's line end and the indent
pub record IsNewLine (bytes : List ℕ) (at : ℕ) (gap : List ℕ) : Type 0 where
  pub end : LineEnd
  pub indent : Span
  pub ends : IsLineEndOf bytes end
  pub indents : IsIndent bytes at indent
  pub is : gap ≡ line_end_bytes end ++ part_of bytes indent

-- what comes between something that is put in front of what stands at the place, or behind it, and
-- that: a new line where that is first on its line, else one space
abbrev pub IsGap : List ℕ → ℕ → List ℕ → Type 0
IsGap bytes at gap = IsNewLine bytes at gap ⊎ ((¬ IsFirstOnLine bytes at) × (gap ≡ 32 ∷ []))

-- what is put in front of a class's last brace, which stands at the place: four spaces, the member
-- and a new line where the brace is first on its line, else the member between two spaces
abbrev pub IsClassEnd : List ℕ → ℕ → List ℕ → List ℕ → Type 0
IsClassEnd bytes at member put =
    ((gap : List ℕ) × IsNewLine bytes at gap
    × (put ≡ 32 ∷ 32 ∷ 32 ∷ 32 ∷ member ++ gap))
    ⊎ ((¬ IsFirstOnLine bytes at) × (put ≡ 32 ∷ member ++ 32 ∷ []))

-- only spaces and tabs stand beside the span on its lines, and these are the whole lines, with the
-- line end of the last if it has one
pub record AreLinesOf (bytes : List ℕ) (span lines : Span) : Type 0 where
  pub front : IsIndent bytes span.from (record { from = lines.from; to = span.from })
  pub back : IsLastOnLine bytes span.to lines.to

-- what goes when the span is removed: its lines where nothing else stands on them, else the span
abbrev pub IsRemoval : List ℕ → Span → Span → Type 0
IsRemoval bytes span whole = AreLinesOf bytes span whole
    ⊎ (((lines : Span) → ¬ AreLinesOf bytes span lines) × (whole ≡ span))

-- space, tab, form feed, LF or CR
abbrev pub IsBlankByte : List ℕ → ℕ → Type 0
IsBlankByte bytes at = HasByte bytes at 32 ⊎ (HasByte bytes at 9 ⊎ (HasByte bytes at 12
    ⊎ (HasByte bytes at 10 ⊎ HasByte bytes at 13)))

-- the span with the blank directly behind it, all of it
pub record IsWithBlank (bytes : List ℕ) (span whole : Span) : Type 0 where
  pub start : whole.from ≡ span.from
  pub ordered : span.to ≤ whole.to
  pub blanks : (k : ℕ) → span.to ≤ k → k < whole.to → IsBlankByte bytes k
  pub stop : ¬ IsBlankByte bytes whole.to
