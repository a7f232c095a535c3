-- What lines and layouts are, as tests that compute on a text that is written out: for cases.
use Rattle.std.proofs.Common.{◌≡◌, ℕ, zero, suc, ◌+◌, ◌-◌, ◌<◌, ◌≤◌, Bool, true, not, ◌&&◌, ◌||◌, List, ◌++◌, length, slice_index, eqb, ltb, Decides, refl, inl, inr, subst, zero-add, arith}
use Rattle.std.proofs.lemmas.Bool.Decides.{Decides-eqb, Decides-ltb, Decides-and, Decides-or, Decides-not, Decides-below_and}
use Rattle.jr_text.specs.declared.spans.Span.{Span}
use Rattle.jr_text.specs.Spans.{part_of}
use Rattle.jr_layout.specs.declared.lines.LineEnd.{LineEnd}
use Rattle.jr_layout.specs.declared.lines.LineEnd.TheVariants.{Lf, Cr, CrLf}
use Rattle.jr_layout.specs.Lines.{HasByte, line_end_bytes, StandsAt, IsInLine, IsLineEndOf, IsLineStart, IsSpaceOrTab, IsIndent, IsFirstOnLine, IsLastOnLine}
use Rattle.jr_layout.specs.Layouts.{IsNewLine, IsRemoval, IsBlankByte, IsWithBlank}
use Rattle.jr_layout.proofs.LinePlaces.{not_first, not_last}

abbrev pub has : List ℕ → ℕ → ℕ → Bool
has bytes at b = ltb at (length bytes) && eqb (slice_index bytes at) b

Decides-has : (bytes : List ℕ) (at b : ℕ) → Decides (has bytes at b) (HasByte bytes at b)
Decides-has bytes at b = Decides-and (ltb at (length bytes)) (eqb (slice_index bytes at) b) (Decides-ltb at (length bytes)) (Decides-eqb (slice_index bytes at) b)

abbrev pub spaced : List ℕ → ℕ → Bool
spaced bytes at = has bytes at 32 || has bytes at 9

Decides-spaced : (bytes : List ℕ) (at : ℕ) → Decides (spaced bytes at) (IsSpaceOrTab bytes at)
Decides-spaced bytes at = Decides-or (has bytes at 32) (has bytes at 9) (Decides-has bytes at 32) (Decides-has bytes at 9)

abbrev pub blank : List ℕ → ℕ → Bool
blank bytes at = has bytes at 32 || (has bytes at 9 || (has bytes at 12 || (has bytes at 10 || has bytes at 13)))

Decides-blank : (bytes : List ℕ) (at : ℕ) → Decides (blank bytes at) (IsBlankByte bytes at)
Decides-blank bytes at = Decides-or (has bytes at 32) _ (Decides-has bytes at 32) (Decides-or (has bytes at 9) _ (Decides-has bytes at 9) (Decides-or (has bytes at 12) _ (Decides-has bytes at 12) (Decides-or (has bytes at 10) (has bytes at 13) (Decides-has bytes at 10) (Decides-has bytes at 13))))

abbrev pub in_line : List ℕ → ℕ → Bool
in_line bytes at = not (has bytes at 10) && not (has bytes at 13)

Decides-in_line : (bytes : List ℕ) (at : ℕ) → Decides (in_line bytes at) (IsInLine bytes at)
Decides-in_line bytes at = Decides-and (not (has bytes at 10)) (not (has bytes at 13)) (Decides-not (has bytes at 10) (Decides-has bytes at 10)) (Decides-not (has bytes at 13) (Decides-has bytes at 13))

abbrev pub starts : List ℕ → ℕ → Bool
starts bytes at = eqb at 0 || (ltb 0 at && (has bytes (at - 1) 10 || (has bytes (at - 1) 13 && not (has bytes at 10))))

Decides-starts : (bytes : List ℕ) (at : ℕ) → Decides (starts bytes at) (IsLineStart bytes at)
Decides-starts bytes at = Decides-or (eqb at 0) _ (Decides-eqb at 0) (Decides-and (ltb 0 at) _ (Decides-ltb 0 at) (Decides-or (has bytes (at - 1) 10) _ (Decides-has bytes (at - 1) 10) (Decides-and (has bytes (at - 1) 13) (not (has bytes at 10)) (Decides-has bytes (at - 1) 13) (Decides-not (has bytes at 10) (Decides-has bytes at 10)))))

abbrev pub stands : List ℕ → ℕ → LineEnd → Bool
stands bytes at Lf = has bytes at 10
stands bytes at Cr = has bytes at 13 && not (has bytes (at + 1) 10)
stands bytes at CrLf = has bytes at 13 && has bytes (at + 1) 10

Decides-stands : (bytes : List ℕ) (at : ℕ) (e : LineEnd) → Decides (stands bytes at e) (StandsAt bytes at e)
Decides-stands bytes at Lf = Decides-has bytes at 10
Decides-stands bytes at Cr = Decides-and (has bytes at 13) (not (has bytes (at + 1) 10)) (Decides-has bytes at 13) (Decides-not (has bytes (at + 1) 10) (Decides-has bytes (at + 1) 10))
Decides-stands bytes at CrLf = Decides-and (has bytes at 13) (has bytes (at + 1) 10) (Decides-has bytes at 13) (Decides-has bytes (at + 1) 10)

-- the test holds of so many places from one on
abbrev pub run : (ℕ → Bool) → ℕ → ℕ → Bool
run p from zero = true
run p from (suc n) = p (from + n) && run p from n

holds_along : (p : ℕ → Bool) (P : ℕ → Type 0) (each : (k : ℕ) → Decides (p k) (P k)) (from to : ℕ) → run p from (to - from) ≡ true → (k : ℕ) → from ≤ k → k < to → P k
holds_along p P each from to t k low high =
    let e : from + (k - from) ≡ k = omega arith in
    subst P e ((Decides-below_and (λ n. p (from + n)) (λ n. P (from + n)) (run p from) (λ n. each (from + n)) refl (λ _. refl) (to - from)).0 t (k - from) (omega arith))

-- an indent
pub is_indent : (bytes : List ℕ) (from at : ℕ) → ltb from (suc at) ≡ true → starts bytes from ≡ true → run (spaced bytes) from (at - from) ≡ true → IsIndent bytes at (record { from = from; to = at })
is_indent bytes from at order start blanks = record {
  stop = refl;
  ordered = let o = (Decides-ltb from (suc at)).0 order in omega arith;
  start = (Decides-starts bytes from).0 start;
  blanks = holds_along (spaced bytes) (IsSpaceOrTab bytes) (Decides-spaced bytes) from at blanks;
}

-- spaces and tabs in front of the place, and then something else
pub no_indent : (bytes : List ℕ) (from at : ℕ) → ltb from (suc at) ≡ true → not (starts bytes from) ≡ true → not (spaced bytes (from - 1)) ≡ true → run (spaced bytes) from (at - from) ≡ true → ¬ IsFirstOnLine bytes at
no_indent bytes from at order start before blanks =
    let o = (Decides-ltb from (suc at)).0 order in
    not_first bytes at from (omega arith) (holds_along (spaced bytes) (IsSpaceOrTab bytes) (Decides-spaced bytes) from at blanks) (λ _. (Decides-not (spaced bytes (from - 1)) (Decides-spaced bytes (from - 1))).0 before) ((Decides-not (starts bytes from) (Decides-starts bytes from)).0 start)

-- the rest of a line with its line end, and of a last line without one
pub is_last : (bytes : List ℕ) (at middle : ℕ) (e : LineEnd) → ltb at (suc middle) ≡ true → run (spaced bytes) at (middle - at) ≡ true → stands bytes middle e ≡ true → IsLastOnLine bytes at (middle + length (line_end_bytes e))
is_last bytes at middle e order blanks t = record {
  middle = middle;
  ordered = let o = (Decides-ltb at (suc middle)).0 order in omega arith;
  blanks = holds_along (spaced bytes) (IsSpaceOrTab bytes) (Decides-spaced bytes) at middle blanks;
  ends = inr (e, (Decides-stands bytes middle e).0 t, refl);
}

pub is_last_at_end : (bytes : List ℕ) (at : ℕ) → ltb at (suc (length bytes)) ≡ true → run (spaced bytes) at (length bytes - at) ≡ true → IsLastOnLine bytes at (length bytes)
is_last_at_end bytes at order blanks = record {
  middle = length bytes;
  ordered = let o = (Decides-ltb at (suc (length bytes))).0 order in omega arith;
  blanks = holds_along (spaced bytes) (IsSpaceOrTab bytes) (Decides-spaced bytes) at (length bytes) blanks;
  ends = inl (refl, refl);
}

-- spaces and tabs behind the place, and then something else
pub is_not_last : (bytes : List ℕ) (at middle : ℕ) → ltb at (suc middle) ≡ true → ltb middle (length bytes) ≡ true → run (spaced bytes) at (middle - at) ≡ true → not (spaced bytes middle) ≡ true → in_line bytes middle ≡ true → (stop : ℕ) → ¬ IsLastOnLine bytes at stop
is_not_last bytes at middle order within blanks other line stop =
    let o = (Decides-ltb at (suc middle)).0 order in
    not_last bytes at middle stop (omega arith) ((Decides-ltb middle (length bytes)).0 within) (holds_along (spaced bytes) (IsSpaceOrTab bytes) (Decides-spaced bytes) at middle blanks) ((Decides-not (spaced bytes middle) (Decides-spaced bytes middle)).0 other) ((Decides-in_line bytes middle).0 line)

-- a removal that takes lines; one that doesn't, as something stands in front, or behind
pub takes_lines : (bytes : List ℕ) (span lines : Span) → IsIndent bytes span.from (record { from = lines.from; to = span.from }) → IsLastOnLine bytes span.to lines.to → IsRemoval bytes span lines
takes_lines bytes span lines front back = inl (record { front = front; back = back })

pub takes_own_front : (bytes : List ℕ) (span : Span) → ¬ IsFirstOnLine bytes span.from → IsRemoval bytes span span
takes_own_front bytes span other = inr (λ lines l. other (record { from = lines.from; to = span.from }, l.front), refl)

pub takes_own_back : (bytes : List ℕ) (span : Span) → ((stop : ℕ) → ¬ IsLastOnLine bytes span.to stop) → IsRemoval bytes span span
takes_own_back bytes span other = inr (λ lines l. other lines.to l.back, refl)

-- the first line end of a text
pub is_first_end : (bytes : List ℕ) (at : ℕ) (e : LineEnd) → run (in_line bytes) 0 at ≡ true → stands bytes at e ≡ true → IsLineEndOf bytes e
is_first_end bytes at e before here = inl (record {
  at = at;
  here = (Decides-stands bytes at e).0 here;
  before = λ k b. subst (IsInLine bytes) (zero-add k) ((Decides-below_and (λ n. in_line bytes (0 + n)) (λ n. IsInLine bytes (0 + n)) (run (in_line bytes) 0) (λ n. Decides-in_line bytes (0 + n)) refl (λ _. refl) at).0 before k b);
})

pub has_no_end : (bytes : List ℕ) → run (in_line bytes) 0 (length bytes) ≡ true → IsLineEndOf bytes Lf
has_no_end bytes t =
    let inside : (k : ℕ) → k < length bytes → IsInLine bytes k = λ k b. subst (IsInLine bytes) (zero-add k) ((Decides-below_and (λ n. in_line bytes (0 + n)) (λ n. IsInLine bytes (0 + n)) (run (in_line bytes) 0) (λ n. Decides-in_line bytes (0 + n)) refl (λ _. refl) (length bytes)).0 t k b) in
    inr (λ k. (λ h. (inside k h.0).0 h, λ h. (inside k h.0).1 h), refl)

-- a new line
pub is_new_line : (bytes : List ℕ) (from at : ℕ) (e : LineEnd) → IsLineEndOf bytes e → IsIndent bytes at (record { from = from; to = at }) → IsNewLine bytes at (line_end_bytes e ++ part_of bytes (record { from = from; to = at }))
is_new_line bytes from at e ends indents = record { end = e; indent = record { from = from; to = at }; ends = ends; indents = indents; is = refl }

-- a span with its blank
pub is_with_blank : (bytes : List ℕ) (from to stop : ℕ) → ltb to (suc stop) ≡ true → run (blank bytes) to (stop - to) ≡ true → not (blank bytes stop) ≡ true → IsWithBlank bytes (record { from = from; to = to }) (record { from = from; to = stop })
is_with_blank bytes from to stop order blanks other = record {
  start = refl;
  ordered = let o = (Decides-ltb to (suc stop)).0 order in omega arith;
  blanks = holds_along (blank bytes) (IsBlankByte bytes) (Decides-blank bytes) to stop blanks;
  stop = (Decides-not (blank bytes stop) (Decides-blank bytes stop)).0 other;
}
