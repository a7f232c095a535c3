-- Changes in order are pushed one after the other.
use Rattle.std.proofs.Common.{◌≡◌, ℕ, ◌+◌, suc, ◌<◌, ◌≤◌, List, [], ◌∷◌, ◌++◌, length, drop, get_or, sym, ap, ◌∙◌, subst, arith}
use Rattle.std.proofs.lemmas.List.{append_assoc, append-nil, length-append, drop_more}
use Rattle.std.proofs.lemmas.List.Elements.{All-append, All-cons, All-nil, All-weaker}
use Rattle.jr_text.specs.Edits.{Entry, EndBy, next_entry, with_last}
use Rattle.jr_rewrite.specs.declared.changes.Change as raw
use Rattle.jr_rewrite.specs.Respellings.{Change}
use Rattle.jr_rewrite.specs.Edited.{entries_from, entries_of, AreInOrder}
use Rattle.jr_rewrite.specs.ChangeView.{change_of, changes_of}

-- the entries of some changes, of which these are left, in order from a place where all entries end
pub record Pushing (all : List Change) (es : List Entry) (left : List Change) : Type 0 where
  pub at : ℕ
  pub whole : es ++ entries_from (length es) left ≡ entries_of all
  pub ends : EndBy es at
  pub ordered : AreInOrder at left

pub start : (cs : List Change) (es : List Entry) → es ≡ [] → AreInOrder 0 cs → Pushing cs es cs
start cs es none h = record {
  at = 0;
  whole = (λ i. none i ++ entries_from (length (none i)) cs);
  ends = subst (λ xs. EndBy xs 0) (sym none) (All-nil (λ (x : Entry). x.span.to ≤ 0));
  ordered = h;
}

pub ended : (all : List Change) (es : List Entry) (left : List Change) → left ≡ [] → Pushing all es left → es ≡ entries_of all
ended all es left none p = sym (append-nil es) ∙ (λ i. es ++ entries_from (length es) (sym none i)) ∙ p.whole

-- what a push asks
pub behind : (all : List Change) (es : List Entry) (left : List Change) (c : Change) (cs : List Change) → left ≡ c ∷ cs → Pushing all es left → EndBy es c.span.from
behind all es left c cs e p =
    let h : AreInOrder p.at (c ∷ cs) = subst (AreInOrder p.at) e p.ordered in
    All-weaker (λ (x : Entry). x.span.to ≤ p.at) (λ (x : Entry). x.span.to ≤ c.span.from) (λ x l. omega (arith, l, h.0)) es p.ends

pub wide : (all : List Change) (es : List Entry) (left : List Change) (c : Change) (cs : List Change) → left ≡ c ∷ cs → Pushing all es left → c.span.from ≤ c.span.to
wide all es left c cs e p = (let h : AreInOrder p.at (c ∷ cs) = subst (AreInOrder p.at) e p.ordered in h.1)

pub more : (all : List Change) (es new : List Entry) (left : List Change) (c : Change) (cs : List Change) → left ≡ c ∷ cs → Pushing all es left
    → new ≡ with_last es (next_entry es c.span c.text) → Pushing all new cs
more all es new left c cs e p pushed =
    let h : AreInOrder p.at (c ∷ cs) = subst (AreInOrder p.at) e p.ordered in
    let entry : Entry = next_entry es c.span c.text in
    let long : length new ≡ suc (length es) = omega (arith, ap length pushed, length-append es (entry ∷ [])) in
    record {
      at = c.span.to;
      whole =
          (λ i. pushed i ++ entries_from (long i) cs)
          ∙ append_assoc es (entry ∷ []) (entries_from (suc (length es)) cs)
          ∙ (λ i. es ++ entries_from (length es) (sym e i))
          ∙ p.whole;
      ends = subst (λ xs. EndBy xs c.span.to) (sym pushed)
          (All-append (λ (x : Entry). x.span.to ≤ c.span.to) es (entry ∷ [])
          (All-weaker (λ (x : Entry). x.span.to ≤ p.at) (λ (x : Entry). x.span.to ≤ c.span.to) (λ x l. omega (arith, l, h.0, h.1)) es p.ends)
          (All-cons (λ (x : Entry). x.span.to ≤ c.span.to) entry [] (omega arith) (All-nil (λ (x : Entry). x.span.to ≤ c.span.to))));
      ordered = h.2;
    }

-- the changes that are left at a place of a slice
pub left_more : (cs : List raw.Change) (i : ℕ) (d : raw.Change) → i < length cs → changes_of (drop i cs) ≡ change_of (get_or cs i d) ∷ changes_of (drop (i + 1) cs)
left_more cs i d h = ap changes_of (drop_more cs i d h)
