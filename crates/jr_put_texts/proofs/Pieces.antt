-- A piece of a text with its own changes, as it is put together from left to right.
use Rattle.std.proofs.Common.{◌≡◌, ℕ, suc, ◌+◌, ◌-◌, ◌<◌, ◌≤◌, List, [], ◌∷◌, ◌++◌, length, get_or, take, drop, map, sym, ap, ◌∙◌, arith, append_assoc}
use Rattle.std.specs.List.{All}
use Rattle.std.specs.Str.{IsCharBoundary}
use Rattle.std.proofs.lemmas.List.{drop_more, drop-take, take-take}
use Rattle.jr_text.specs.declared.spans.Span.{Span}
use Rattle.jr_text.specs.Spans.{CanCut, part_of}
use Rattle.jr_rewrite.specs.declared.changes.Change as raw
use Rattle.jr_rewrite.specs.ChangeView.{change_of, changes_of}
use Rattle.jr_rewrite.specs.Respellings.{Change}
use Rattle.jr_rewrite.specs.Woven.{Fit, join_changes, with_changes}

abbrev pub span_of : ℕ → ℕ → Span
span_of from to = record { from = from; to = to }

-- none of the changes ends behind the place
abbrev pub EndBy : ℕ → List Change → Type 0
EndBy to cs = All (λ (c : Change). c.span.to ≤ to) cs

-- what is done is the piece up to a place, and the changes that are left stand behind the place
pub record Putting (bytes : List ℕ) (piece : Span) (all left : List Change) (done : List ℕ) (at : ℕ) : Type 0 where
  pub joined : done ++ join_changes at (take piece.to bytes) left ≡ with_changes bytes piece all
  pub fit : Fit at bytes left
  pub within : EndBy piece.to left
  pub reaches : at ≤ piece.to
  pub boundary : IsCharBoundary bytes at

-- a part of a text is one of what stands in front of a later place
front_part : (bytes : List ℕ) (at end to : ℕ) → at ≤ end → end ≤ to → take (end - at) (drop at (take to bytes)) ≡ take (end - at) (drop at bytes)
front_part bytes at end to low high =
    let whole : at + (to - at) ≡ to = omega (arith, low, high) in
    let fewer : end - at ≤ to - at = omega (arith, low, high) in
    ap (λ n. take (end - at) (drop at (take n bytes))) (sym whole)
    ∙ ap (take (end - at)) (drop-take at (to - at) bytes)
    ∙ take-take (end - at) (to - at) (drop at bytes) fewer

-- what is left of it
rest_part : (bytes : List ℕ) (at to : ℕ) → at ≤ to → drop at (take to bytes) ≡ take (to - at) (drop at bytes)
rest_part bytes at to low =
    let whole : at + (to - at) ≡ to = omega (arith, low) in
    ap (λ n. drop at (take n bytes)) (sym whole) ∙ drop-take at (to - at) bytes

module _ (bytes : List ℕ) (piece : Span) (all : List Change) where
  pub begins : (done : List ℕ) → CanCut bytes piece → Fit piece.from bytes all → EndBy piece.to all → done ≡ [] → Putting bytes piece all all done piece.from
  begins done cut fit within e = record {
    joined = ap (λ xs. xs ++ with_changes bytes piece all) e;
    fit = fit;
    within = within;
    reaches = cut.ordered;
    boundary = cut.start;
  }

  -- what stands in front of the next change
  pub gap_cut : (c : Change) (left : List Change) (done : List ℕ) (at : ℕ) → CanCut bytes piece → Putting bytes piece all (c ∷ left) done at → CanCut bytes (span_of at c.span.from)
  gap_cut c left done at cut p =
      let low = p.fit.0 in
      let ordered = p.fit.1 in
      let end = p.within 0 c (omega arith) in
      let long = cut.within in
      record { ordered = low; within = omega (arith, ordered, end, long); start = p.boundary; stop = p.fit.2 }

  pub more : (c : Change) (left : List Change) (done next : List ℕ) (at : ℕ) → Putting bytes piece all (c ∷ left) done at → next ≡ (done ++ part_of bytes (span_of at c.span.from)) ++ c.text → Putting bytes piece all left next c.span.to
  more c left done next at p eq =
      let end : c.span.to ≤ piece.to = p.within 0 c (omega arith) in
      let ordered = p.fit.1 in
      let gap : List ℕ = part_of bytes (span_of at c.span.from) in
      let rest : List ℕ = join_changes c.span.to (take piece.to bytes) left in
      let part = front_part bytes at c.span.from piece.to p.fit.0 (omega (arith, ordered, end)) in
      let groups : ((done ++ gap) ++ c.text) ++ rest ≡ done ++ ((gap ++ c.text) ++ rest) = simp append_assoc in
      let before : done ++ (take (c.span.from - at) (drop at (take piece.to bytes)) ++ c.text ++ rest) ≡ with_changes bytes piece all = p.joined in
      record {
        joined = ap (λ xs. xs ++ rest) eq ∙ groups ∙ ap (λ xs. done ++ ((xs ++ c.text) ++ rest)) (sym part) ∙ before;
        fit = p.fit.4;
        within = λ k d lt. p.within (suc k) d (omega (arith, lt));
        reaches = end;
        boundary = p.fit.3;
      }

  -- what stands behind the last change
  pub rest_cut : (done : List ℕ) (at : ℕ) → CanCut bytes piece → Putting bytes piece all [] done at → CanCut bytes (span_of at piece.to)
  rest_cut done at cut p = record { ordered = p.reaches; within = cut.within; start = p.boundary; stop = cut.stop }

  pub ends : (done : List ℕ) (at : ℕ) → Putting bytes piece all [] done at → done ++ part_of bytes (span_of at piece.to) ≡ with_changes bytes piece all
  ends done at p = ap (λ xs. done ++ xs) (sym (rest_part bytes at piece.to p.reaches)) ∙ p.joined

-- the first of the changes that are left
pub changes_left : (changes : List raw.Change) (i : ℕ) (x : raw.Change) → i < length changes → x ≡ get_or changes i x → changes_of (drop i changes) ≡ change_of x ∷ changes_of (drop (i + 1) changes)
changes_left changes i x l e = ap (map change_of) (drop_more changes i x l) ∙ ap (λ y. change_of y ∷ map change_of (drop (i + 1) changes)) (sym e)
