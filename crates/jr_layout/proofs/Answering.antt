-- Each layout is one alone.
use Rattle.std.proofs.Common.{◌≡◌, ℕ, ◌-◌, ◌<◌, List, ◌∷◌, ◌++◌, length, refl, sym, ap, ◌∙◌, subst, inl, inr, arith}
use Rattle.std.proofs.lemmas.Bool.{cases_lt}
use Rattle.jr_text.specs.declared.spans.Span.{Span}
use Rattle.jr_text.specs.Spans.{part_of}
use Rattle.jr_layout.specs.declared.lines.LineEnd.{LineEnd}
use Rattle.jr_layout.specs.declared.lines.LineEnd.TheVariants.{Lf, Cr, CrLf}
use Rattle.jr_layout.specs.Lines.{line_end_bytes, StandsAt, IsLineEndOf, IsIndent, IsLastOnLine}
use Rattle.jr_layout.specs.Layouts.{IsNewLine, IsGap, IsClassEnd, AreLinesOf, IsRemoval, IsWithBlank}
use Rattle.jr_layout.proofs.LinePlaces.{one_byte, no_end_in_blank, no_end_in_line, no_start_in_blank}

-- neither of two places lies before the other
same_place : (a b : ℕ) → (a < b → ⊥) → (b < a → ⊥) → a ≡ b
same_place a b p q = elim (cases_lt a b) [ inl l ↦ absurd (p l) | inr h ↦ elim (cases_lt b a) [ inl l ↦ absurd (q l) | inr h' ↦ omega arith ] ]

same_span : (s t : Span) → s.from ≡ t.from → s.to ≡ t.to → s ≡ t
same_span s t e f = λ i. record { from = e i; to = f i }

lf_is_no_cr : (lf cr : ℕ) → lf < cr → lf ≡ cr → ⊥
lf_is_no_cr lf cr less e = omega (arith, less, e)

-- at one place stands one line end
one_stands : (bytes : List ℕ) (at : ℕ) (e f : LineEnd) → StandsAt bytes at e → StandsAt bytes at f → e ≡ f
one_stands bytes at Lf Lf h i = refl
one_stands bytes at Lf Cr h i = absurd (lf_is_no_cr 10 13 (omega arith) (one_byte bytes at 10 13 h i.0))
one_stands bytes at Lf CrLf h i = absurd (lf_is_no_cr 10 13 (omega arith) (one_byte bytes at 10 13 h i.0))
one_stands bytes at Cr Lf h i = absurd (lf_is_no_cr 10 13 (omega arith) (sym (one_byte bytes at 13 10 h.0 i)))
one_stands bytes at Cr Cr h i = refl
one_stands bytes at Cr CrLf h i = absurd (h.1 i.1)
one_stands bytes at CrLf Lf h i = absurd (lf_is_no_cr 10 13 (omega arith) (sym (one_byte bytes at 13 10 h.0 i)))
one_stands bytes at CrLf Cr h i = absurd (i.1 h.1)
one_stands bytes at CrLf CrLf h i = refl

pub one_line_end : (bytes : List ℕ) (e f : LineEnd) → IsLineEndOf bytes e → IsLineEndOf bytes f → e ≡ f
one_line_end bytes e f (inl h) (inl i) =
    let same : i.at ≡ h.at = same_place i.at h.at (λ l. no_end_in_line bytes i.at (h.before i.at l) f i.here) (λ l. no_end_in_line bytes h.at (i.before h.at l) e h.here) in
    one_stands bytes h.at e f h.here (subst (λ k. StandsAt bytes k f) same i.here)
one_line_end bytes e f (inl h) (inr i) = absurd (no_end_in_line bytes h.at (i.0 h.at) e h.here)
one_line_end bytes e f (inr h) (inl i) = absurd (no_end_in_line bytes i.at (h.0 i.at) f i.here)
one_line_end bytes e f (inr h) (inr i) = h.1 ∙ sym i.1

-- no line begins within an indent
begins_no_later : (bytes : List ℕ) (at : ℕ) (s t : Span) → IsIndent bytes at s → IsIndent bytes at t → s.from < t.from → ⊥
begins_no_later bytes at s t i j l =
    let order = j.ordered in
    no_start_in_blank bytes t.from (omega arith) (i.blanks (t.from - 1) (omega arith) (omega arith)) j.start

one_indent : (bytes : List ℕ) (at : ℕ) (s t : Span) → IsIndent bytes at s → IsIndent bytes at t → s ≡ t
one_indent bytes at s t i j = same_span s t (same_place s.from t.from (begins_no_later bytes at s t i j) (begins_no_later bytes at t s j i)) (i.stop ∙ sym j.stop)

one_new_line : (bytes : List ℕ) (at : ℕ) (g h : List ℕ) → IsNewLine bytes at g → IsNewLine bytes at h → g ≡ h
one_new_line bytes at g h i j =
    let end = one_line_end bytes i.end j.end i.ends j.ends in
    let indent = one_indent bytes at i.indent j.indent i.indents j.indents in
    i.is ∙ ((λ k. line_end_bytes (end k) ++ part_of bytes (indent k)) ∙ sym j.is)

pub one_gap : (bytes : List ℕ) (at : ℕ) (g h : List ℕ) → IsGap bytes at g → IsGap bytes at h → g ≡ h
one_gap bytes at g h (inl i) (inl j) = one_new_line bytes at g h i j
one_gap bytes at g h (inl i) (inr j) = absurd (j.0 (i.indent, i.indents))
one_gap bytes at g h (inr i) (inl j) = absurd (i.0 (j.indent, j.indents))
one_gap bytes at g h (inr i) (inr j) = i.1 ∙ sym j.1

pub one_class_end : (bytes : List ℕ) (at : ℕ) (member p q : List ℕ) → IsClassEnd bytes at member p → IsClassEnd bytes at member q → p ≡ q
one_class_end bytes at member p q (inl i) (inl j) = i.2 ∙ (ap (λ g. 32 ∷ 32 ∷ 32 ∷ 32 ∷ (member ++ g)) (one_new_line bytes at i.0 j.0 i.1 j.1) ∙ sym j.2)
one_class_end bytes at member p q (inl i) (inr j) = absurd (j.0 (i.1.indent, i.1.indents))
one_class_end bytes at member p q (inr i) (inl j) = absurd (i.0 (j.1.indent, j.1.indents))
one_class_end bytes at member p q (inr i) (inr j) = i.1 ∙ sym j.1

-- spaces and tabs behind a place don't go on behind where they end
ends_no_sooner : (bytes : List ℕ) (at s t : ℕ) (l : IsLastOnLine bytes at s) (m : IsLastOnLine bytes at t) → l.middle < m.middle → ⊥
ends_no_sooner bytes at s t l m less =
    let blank = m.blanks l.middle l.ordered less in
    elim l.ends [
      | inl e ↦ elim blank [ inl b ↦ omega (arith, b.0, e.0) | inr b ↦ omega (arith, b.0, e.0) ]
      | inr e ↦ no_end_in_blank bytes l.middle blank e.0 e.1
    ]

-- at the text's end stands no line end
within_text : (bytes : List ℕ) (at : ℕ) (e : LineEnd) → StandsAt bytes at e → at < length bytes
within_text bytes at Lf h = h.0
within_text bytes at Cr h = h.0.0
within_text bytes at CrLf h = h.0.0

one_last : (bytes : List ℕ) (at s t : ℕ) → IsLastOnLine bytes at s → IsLastOnLine bytes at t → s ≡ t
one_last bytes at s t l m =
    let same : m.middle ≡ l.middle = same_place m.middle l.middle (ends_no_sooner bytes at t s m l) (ends_no_sooner bytes at s t l m) in
    elim l.ends [
      | inl e ↦ elim m.ends [
        | inl f ↦ omega (arith, e.1, f.1, same)
        | inr f ↦ absurd (omega (arith, within_text bytes m.middle f.0 f.1, e.0, same))
      ]
      | inr e ↦ elim m.ends [
        | inl f ↦ absurd (omega (arith, within_text bytes l.middle e.0 e.1, f.0, same))
        | inr f ↦
            let end : e.0 ≡ f.0 = one_stands bytes l.middle e.0 f.0 e.1 (subst (λ k. StandsAt bytes k f.0) same f.1) in
            let size : length (line_end_bytes e.0) ≡ length (line_end_bytes f.0) = ap (λ x. length (line_end_bytes x)) end in
            omega (arith, e.2, f.2, same, size)
      ]
    ]

one_lines : (bytes : List ℕ) (span one other : Span) → AreLinesOf bytes span one → AreLinesOf bytes span other → one ≡ other
one_lines bytes span one other l m = same_span one other
    (ap (λ s. s.from) (one_indent bytes span.from (record { from = one.from; to = span.from }) (record { from = other.from; to = span.from }) l.front m.front))
    (one_last bytes span.to one.to other.to l.back m.back)

pub one_removal : (bytes : List ℕ) (span one other : Span) → IsRemoval bytes span one → IsRemoval bytes span other → one ≡ other
one_removal bytes span one other (inl l) (inl m) = one_lines bytes span one other l m
one_removal bytes span one other (inl l) (inr m) = absurd (m.0 one l)
one_removal bytes span one other (inr l) (inl m) = absurd (l.0 other m)
one_removal bytes span one other (inr l) (inr m) = l.1 ∙ sym m.1

blank_no_sooner : (bytes : List ℕ) (span one other : Span) → IsWithBlank bytes span one → IsWithBlank bytes span other → one.to < other.to → ⊥
blank_no_sooner bytes span one other l m less = l.stop (m.blanks one.to l.ordered less)

pub one_blank : (bytes : List ℕ) (span one other : Span) → IsWithBlank bytes span one → IsWithBlank bytes span other → one ≡ other
one_blank bytes span one other l m = same_span one other (l.start ∙ sym m.start) (same_place one.to other.to (blank_no_sooner bytes span one other l m) (blank_no_sooner bytes span other one m l))
