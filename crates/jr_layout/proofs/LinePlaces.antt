-- Places on a line: where a text can be cut beside it, and what shows that something else stands
-- there.
use Rattle.std.proofs.Common.{◌≡◌, ℕ, ◌+◌, ◌-◌, ◌<◌, ◌≤◌, List, length, sym, subst, inl, inr, arith}
use Rattle.std.proofs.lemmas.Bool.{cases_lt}
use Rattle.std.proofs.lemmas.Str.{IsCharBoundary-start, IsCharBoundary-end}
use Rattle.std.specs.Str.{IsUtf8, IsCharBoundary}
use Rattle.jr_text.specs.declared.spans.Span.{Span}
use Rattle.jr_text.specs.Spans.{CanCut}
use Rattle.jr_layout.specs.declared.lines.LineEnd.{LineEnd}
use Rattle.jr_layout.specs.declared.lines.LineEnd.TheVariants.{Lf, Cr, CrLf}
use Rattle.jr_layout.specs.Lines.{HasByte, line_end_bytes, StandsAt, IsInLine, IsLineStart, IsSpaceOrTab, AreSpacesAndTabs, IsIndent, IsFirstOnLine, IsLastOnLine}
use Rattle.jr_layout.proofs.Runs.{ascii_at, space_or_tab_ascii, cut_behind, cut_behind_run}

-- one byte is not two
pub one_byte : (bytes : List ℕ) (k b c : ℕ) → HasByte bytes k b → HasByte bytes k c → b ≡ c
one_byte bytes k b c h i = omega (arith, h.1, i.1)

-- a line end begins with no space and no tab
space_begins_none : (bytes : List ℕ) (k : ℕ) → IsSpaceOrTab bytes k → (c : ℕ) → 9 < c → c < 32 → HasByte bytes k c → ⊥
space_begins_none bytes k (inl h) c low high i = let e : 32 ≡ c = one_byte bytes k 32 c h i in omega arith
space_begins_none bytes k (inr h) c low high i = let e : 9 ≡ c = one_byte bytes k 9 c h i in omega arith

pub no_end_in_blank : (bytes : List ℕ) (k : ℕ) → IsSpaceOrTab bytes k → (e : LineEnd) → StandsAt bytes k e → ⊥
no_end_in_blank bytes k s Lf h = space_begins_none bytes k s 10 (omega arith) (omega arith) h
no_end_in_blank bytes k s Cr h = space_begins_none bytes k s 13 (omega arith) (omega arith) h.0
no_end_in_blank bytes k s CrLf h = space_begins_none bytes k s 13 (omega arith) (omega arith) h.0

pub no_end_in_line : (bytes : List ℕ) (k : ℕ) → IsInLine bytes k → (e : LineEnd) → StandsAt bytes k e → ⊥
no_end_in_line bytes k n Lf h = n.0 h
no_end_in_line bytes k n Cr h = n.1 h.0
no_end_in_line bytes k n CrLf h = n.1 h.0

-- behind a space or a tab no line begins
pub no_start_in_blank : (bytes : List ℕ) (at : ℕ) → 0 < at → IsSpaceOrTab bytes (at - 1) → IsLineStart bytes at → ⊥
no_start_in_blank bytes at pos s (inl e) = omega arith
no_start_in_blank bytes at pos s (inr (p, inl h)) = space_begins_none bytes (at - 1) s 10 (omega arith) (omega arith) h
no_start_in_blank bytes at pos s (inr (p, inr h)) = space_begins_none bytes (at - 1) s 13 (omega arith) (omega arith) h.0

-- where no line begins in front of all the spaces and tabs before a place, that place is not first on its line
pub not_first : (bytes : List ℕ) (at from : ℕ) → from ≤ at → AreSpacesAndTabs bytes from at → (0 < from → ¬ IsSpaceOrTab bytes (from - 1)) → ¬ IsLineStart bytes from → ¬ IsFirstOnLine bytes at
not_first bytes at from order run whole inside (indent, i) =
    elim (cases_lt indent.from from) [
      | inl b ↦ whole (omega arith) (i.blanks (from - 1) (omega arith) (omega arith))
      | inr b ↦ elim (cases_lt from indent.from) [
        | inl b' ↦ let below = i.ordered in no_start_in_blank bytes indent.from (omega arith) (run (indent.from - 1) (omega arith) (omega arith)) i.start
        | inr b' ↦ let e : indent.from ≡ from = omega arith in inside (subst (IsLineStart bytes) e i.start)
      ]
    ]

-- where something else than a line end follows the spaces and tabs behind a place, that place is not last on its line
pub not_last : (bytes : List ℕ) (at middle stop : ℕ) → at ≤ middle → middle < length bytes → AreSpacesAndTabs bytes at middle → ¬ IsSpaceOrTab bytes middle → IsInLine bytes middle → ¬ IsLastOnLine bytes at stop
not_last bytes at middle stop order within run whole line l =
    let low = l.ordered in
    elim (cases_lt l.middle middle) [
      | inl b ↦ elim l.ends [
        | inl e ↦ let ends = e.0 in omega arith
        | inr e ↦ no_end_in_blank bytes l.middle (run l.middle low b) e.0 e.1
      ]
      | inr b ↦ elim (cases_lt middle l.middle) [
        | inl b' ↦ whole (l.blanks middle order b')
        | inr b' ↦ let same : l.middle ≡ middle = omega arith in elim l.ends [
          | inl e ↦ let ends = e.0 in omega arith
          | inr e ↦ no_end_in_line bytes middle line e.0 (subst (λ k. StandsAt bytes k e.0) same e.1)
        ]
      ]
    ]

-- a line ends behind what is last on it
pub stops_behind : (bytes : List ℕ) (at stop : ℕ) → IsLastOnLine bytes at stop → at ≤ stop
stops_behind bytes at stop l = let order = l.ordered in elim l.ends [ inl e ↦ omega (arith, e.1) | inr e ↦ omega (arith, e.2) ]

-- a text can be cut where a line begins
pub cut_at_start : (bytes : List ℕ) (at : ℕ) → IsUtf8 bytes → IsLineStart bytes at → IsCharBoundary bytes at
cut_at_start bytes at u (inl e) = subst (IsCharBoundary bytes) (sym e) (IsCharBoundary-start bytes u)
cut_at_start bytes at u (inr (p, inl h)) = cut_behind bytes (at - 1) at u (ascii_at bytes (at - 1) 10 (omega arith) h) (omega arith)
cut_at_start bytes at u (inr (p, inr h)) = cut_behind bytes (at - 1) at u (ascii_at bytes (at - 1) 13 (omega arith) h.0) (omega arith)

-- and at both ends of an indent
pub cut_indent : (bytes : List ℕ) (at : ℕ) (indent : Span) → IsUtf8 bytes → at ≤ length bytes → IsIndent bytes at indent → CanCut bytes indent
cut_indent bytes at indent u within i =
    let order = i.ordered in
    let stop = i.stop in
    let start = cut_at_start bytes indent.from u i.start in
    let here : IsCharBoundary bytes at = cut_behind_run bytes (IsSpaceOrTab bytes) indent.from at (space_or_tab_ascii bytes) u order start i.blanks in
    record { ordered = omega arith; within = omega arith; start = start; stop = subst (IsCharBoundary bytes) (sym stop) here }

-- and behind a line that is last
cut_behind_end : (bytes : List ℕ) (k : ℕ) (e : LineEnd) (stop : ℕ) → IsUtf8 bytes → StandsAt bytes k e → stop ≡ k + length (line_end_bytes e) → IsCharBoundary bytes stop
cut_behind_end bytes k Lf stop u h e = cut_behind bytes k stop u (ascii_at bytes k 10 (omega arith) h) e
cut_behind_end bytes k Cr stop u h e = cut_behind bytes k stop u (ascii_at bytes k 13 (omega arith) h.0) e
cut_behind_end bytes k CrLf stop u h e = cut_behind bytes (k + 1) stop u (ascii_at bytes (k + 1) 10 (omega arith) h.1) (omega arith)

pub cut_behind_last : (bytes : List ℕ) (at stop : ℕ) → IsUtf8 bytes → IsLastOnLine bytes at stop → IsCharBoundary bytes stop
cut_behind_last bytes at stop u l = elim l.ends [
  | inl e ↦ let same : length bytes ≡ stop = omega (arith, e.0, e.1) in subst (IsCharBoundary bytes) same (IsCharBoundary-end bytes)
  | inr e ↦ cut_behind_end bytes l.middle e.0 stop u e.1 e.2
]
