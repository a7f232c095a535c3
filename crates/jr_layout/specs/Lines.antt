-- Lines of a text: what ends them, where they begin, and what stands beside a place on its line.
use Rattle.std.specs.Prelude.{◌≡◌, ℕ, ◌+◌, ◌-◌, ◌<◌, ◌≤◌, ◌⊎◌, List, [], ◌∷◌, length, slice_index}
use Rattle.jr_text.specs.declared.spans.Span.{Span}
use Rattle.jr_layout.specs.declared.lines.LineEnd.{LineEnd}
use Rattle.jr_layout.specs.declared.lines.LineEnd.TheVariants.{Lf, Cr, CrLf}

-- the text has this byte at the place
abbrev pub HasByte : List ℕ → ℕ → ℕ → Type 0
HasByte bytes at byte = (at < length bytes) × (slice_index bytes at ≡ byte)

abbrev pub HasLf : List ℕ → ℕ → Type 0
HasLf bytes at = HasByte bytes at 10

abbrev pub HasCr : List ℕ → ℕ → Type 0
HasCr bytes at = HasByte bytes at 13

-- the bytes that a line end has
abbrev pub line_end_bytes : LineEnd → List ℕ
line_end_bytes Lf = 10 ∷ []
line_end_bytes Cr = 13 ∷ []
line_end_bytes CrLf = 13 ∷ 10 ∷ []

-- the line end stands at the place: an LF, a CR that no LF follows, or a CR and the LF behind it,
-- which are one line end
abbrev pub StandsAt : List ℕ → ℕ → LineEnd → Type 0
StandsAt bytes at Lf = HasLf bytes at
StandsAt bytes at Cr = HasCr bytes at × (¬ HasLf bytes (at + 1))
StandsAt bytes at CrLf = HasCr bytes at × HasLf bytes (at + 1)

-- no line end has a byte at the place
abbrev pub IsInLine : List ℕ → ℕ → Type 0
IsInLine bytes at = (¬ HasLf bytes at) × (¬ HasCr bytes at)

-- the line end stands in the text, and none before it
pub record IsFirstLineEnd (bytes : List ℕ) (end : LineEnd) : Type 0 where
  pub at : ℕ
  pub here : StandsAt bytes at end
  pub before : (k : ℕ) → k < at → IsInLine bytes k

-- the text's first line end, or LF where it has none
abbrev pub IsLineEndOf : List ℕ → LineEnd → Type 0
IsLineEndOf bytes end = IsFirstLineEnd bytes end ⊎ (((k : ℕ) → IsInLine bytes k) × (end ≡ Lf))

-- a line begins at the place: it is the text's start, an LF stands in front of it, or a CR does and
-- no LF behind it (between a CR and its LF no line begins)
abbrev pub IsLineStart : List ℕ → ℕ → Type 0
IsLineStart bytes at = (at ≡ 0)
    ⊎ ((0 < at) × (HasLf bytes (at - 1) ⊎ (HasCr bytes (at - 1) × (¬ HasLf bytes at))))

abbrev pub IsSpaceOrTab : List ℕ → ℕ → Type 0
IsSpaceOrTab bytes at = HasByte bytes at 32 ⊎ HasByte bytes at 9

-- only spaces and tabs stand from the one place to the other
abbrev pub AreSpacesAndTabs : List ℕ → ℕ → ℕ → Type 0
AreSpacesAndTabs bytes from to = (k : ℕ) → from ≤ k → k < to → IsSpaceOrTab bytes k

-- what stands at the place is first on its line, and the span is its indent: spaces and tabs alone,
-- from the line's start up to the place
pub record IsIndent (bytes : List ℕ) (at : ℕ) (indent : Span) : Type 0 where
  pub stop : indent.to ≡ at
  pub ordered : indent.from ≤ at
  pub start : IsLineStart bytes indent.from
  pub blanks : AreSpacesAndTabs bytes indent.from at

-- only spaces and tabs stand between the line's start and the place
abbrev pub IsFirstOnLine : List ℕ → ℕ → Type 0
IsFirstOnLine bytes at = (indent : Span) × IsIndent bytes at indent

-- from the place on the line has spaces and tabs alone, and the stop is behind its line end, or the
-- text's end where the line has none
pub record IsLastOnLine (bytes : List ℕ) (at stop : ℕ) : Type 0 where
  pub middle : ℕ
  pub ordered : at ≤ middle
  pub blanks : AreSpacesAndTabs bytes at middle
  pub ends : ((middle ≡ length bytes) × (stop ≡ middle)) ⊎ ((end : LineEnd)
      × StandsAt bytes middle end × (stop ≡ middle + length (line_end_bytes end)))
