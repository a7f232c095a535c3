-- Changes that are in order are edits, and the splice is what they make of the text.
use Rattle.std.proofs.Common.{◌≡◌, ◌≢◌, ℕ, suc, ◌+◌, ◌≤◌, ◌<◌, List, [], ◌∷◌, ◌++◌, length, refl, sym, ap, ◌∙◌, inl, inr, arith}
use Rattle.std.specs.List.{AllPairs, AllByRecursion}
use Rattle.std.specs.Prelude.{slice_range}
use Rattle.std.proofs.lemmas.Bool.{cases_lt}
use Rattle.std.proofs.lemmas.List.Elements.{All-from_recursion, All-nil}
use Rattle.jr_text.specs.Spans.{CanCut, Overlap}
use Rattle.jr_text.specs.Edits.{Entry, ComesBefore, AreEdits, FitsIn}
use Rattle.jr_text.specs.Splices.{splice, join_from}
use Rattle.jr_text.proofs.Chains.{Chain}
use Rattle.jr_text.proofs.Pairs.{AllPairs-insert}
use Rattle.jr_text.proofs.SpliceProofs.{join_from-splice}
use Rattle.jr_rewrite.specs.Respellings.{Change}
use Rattle.jr_rewrite.specs.Edited.{entries_from, entries_of, AreInOrder}
use Rattle.jr_rewrite.specs.Woven.{join_changes, Fit}

-- ---- the splice

chain : (n at : ℕ) (bytes : List ℕ) (cs : List Change) → Fit at bytes cs → Chain at (length bytes) (entries_from n cs)
chain n at bytes [] h = h
chain n at bytes (c ∷ cs) h = (h.0, h.1, chain (suc n) c.span.to bytes cs h.4)

join_is : (n at : ℕ) (bytes : List ℕ) (cs : List Change) → join_from at bytes (entries_from n cs) ≡ join_changes at bytes cs
join_is n at bytes [] = refl
join_is n at bytes (c ∷ cs) = ap (λ xs. slice_range bytes at c.span.from ++ c.text ++ xs) (join_is (suc n) c.span.to bytes cs)

pub splice_is : (bytes : List ℕ) (cs : List Change) → Fit 0 bytes cs → splice bytes (entries_of cs) ≡ join_changes 0 bytes cs
splice_is bytes cs h = sym (join_from-splice 0 bytes (entries_of cs) (chain 0 0 bytes cs h)) ∙ join_is 0 0 bytes cs

-- ---- edits

fit_within : (at : ℕ) (bytes : List ℕ) (cs : List Change) → Fit at bytes cs → at ≤ length bytes
fit_within at bytes [] h = h
fit_within at bytes (c ∷ cs) h = let rest = fit_within c.span.to bytes cs h.4 in omega (arith, h.0, h.1)

-- what holds of each entry
each : (P : Entry → Type 0) (bytes : List ℕ) → ((c : Change) (n : ℕ) → CanCut bytes c.span → P (record { span = c.span; text = c.text; order = n })) → (n at : ℕ) (cs : List Change)
    → Fit at bytes cs → AllByRecursion P (entries_from n cs)
each P bytes tells n at [] h = tt
each P bytes tells n at (c ∷ cs) h =
    (tells c n (record { ordered = h.1; within = fit_within c.span.to bytes cs h.4; start = h.2; stop = h.3 }), each P bytes tells (suc n) c.span.to cs h.4)

pub fits : (bytes : List ℕ) (cs : List Change) → Fit 0 bytes cs → FitsIn bytes (entries_of cs)
fits bytes cs h = All-from_recursion _ (entries_of cs) (each (λ e. CanCut bytes e.span) bytes (λ c n cut. cut) 0 0 cs h)

-- what holds of each entry behind a place, with a later number
behind : (P : Entry → Type 0) (bytes : List ℕ) (from low : ℕ)
    → ((c : Change) (n : ℕ) → from ≤ c.span.from → c.span.from ≤ c.span.to → low ≤ n → P (record { span = c.span; text = c.text; order = n }))
    → (n at : ℕ) (cs : List Change) → from ≤ at → low ≤ n → Fit at bytes cs → AllByRecursion P (entries_from n cs)
behind P bytes from low tells n at [] f l h = tt
behind P bytes from low tells n at (c ∷ cs) f l h =
    (tells c n (omega (arith, h.0)) h.1 l, behind P bytes from low tells (suc n) c.span.to cs (omega (arith, h.0, h.1)) (omega arith) h.4)

comes_before : (x y : Entry) → x.span.from ≤ x.span.to → x.span.to ≤ y.span.from → y.span.from ≤ y.span.to → x.order < y.order → ComesBefore x y
comes_before x y wide apart wide' later =
    elim (cases_lt x.span.from y.span.from) [
      | inl less ↦ inl less
      | inr least ↦
          (let from : x.span.from ≡ y.span.from = omega arith in
          elim (cases_lt x.span.to y.span.to) [
            | inl less ↦ inr (from, inl less)
            | inr most ↦ (let to : x.span.to ≡ y.span.to = omega arith in inr (from, inr (to, later)))
          ])
    ]

no_overlap : (x y : Entry) → x.span.from ≤ x.span.to → x.span.to ≤ y.span.from → y.span.from ≤ y.span.to → Overlap x.span y.span → ⊥
no_overlap x y wide apart wide' h =
    elim h [
      | inl shares ↦ omega (arith, shares.1.1, shares.2.0)
      | inr inside ↦ elim inside [ inl first ↦ omega (arith, first.1) | inr second ↦ omega (arith, second.2) ]
    ]

-- a relation between each entry and each later one
pairs : (R : Entry → Entry → Type 0) (bytes : List ℕ)
    → ((x y : Entry) → x.span.from ≤ x.span.to → x.span.to ≤ y.span.from → y.span.from ≤ y.span.to → x.order < y.order → R x y)
    → (n at : ℕ) (cs : List Change) → Fit at bytes cs → AllPairs R (entries_from n cs)
pairs R bytes tells n at [] h = λ i j d p q. absurd (omega arith)
pairs R bytes tells n at (c ∷ cs) h =
    let first : Entry = record { span = c.span; text = c.text; order = n } in
    AllPairs-insert R [] (entries_from (suc n) cs) first (pairs R bytes tells (suc n) c.span.to cs h.4) (All-nil (λ x. R x first))
    (All-from_recursion (R first) (entries_from (suc n) cs)
    (behind (R first) bytes c.span.to (suc n) (λ y m apart wide later. tells first (record { span = y.span; text = y.text; order = m }) h.1 apart wide (omega arith)) (suc n) c.span.to cs (omega arith) (omega arith) h.4))

numbers : (end n : ℕ) (cs : List Change) → n + length (entries_from n cs) ≤ end → AllByRecursion (λ (e : Entry). e.order < end) (entries_from n cs)
numbers end n [] h = tt
numbers end n (c ∷ cs) h = (omega arith, numbers end (suc n) cs (omega arith))

pub in_order : (at : ℕ) (bytes : List ℕ) (cs : List Change) → Fit at bytes cs → AreInOrder at cs
in_order at bytes [] h = tt
in_order at bytes (c ∷ cs) h = (h.0, h.1, in_order c.span.to bytes cs h.4)

pub edits : (bytes : List ℕ) (cs : List Change) → Fit 0 bytes cs → AreEdits (entries_of cs)
edits bytes cs h = record {
  spans = All-from_recursion _ (entries_of cs) (each (λ e. e.span.from ≤ e.span.to) bytes (λ c n cut. cut.ordered) 0 0 cs h);
  ordered = pairs ComesBefore bytes comes_before 0 0 cs h;
  apart = pairs (λ x y. ¬ Overlap x.span y.span) bytes (λ x y wide apart wide' later. no_overlap x y wide apart wide') 0 0 cs h;
  numbered = All-from_recursion _ (entries_of cs) (numbers (length (entries_of cs)) 0 cs (omega arith));
  distinct = pairs (λ x y. x.order ≢ y.order) bytes (λ x y wide apart wide' later. λ same. omega (arith, same)) 0 0 cs h;
}
