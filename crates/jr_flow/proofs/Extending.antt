-- Rows that steps extend, piece by piece: one step, the steps in a word, those of a node, of all.
use Rattle.std.proofs.Common.{◌≡◌, ◌⊎◌, ◌<◌, ◌≤◌, ℕ, ◌+◌, ◌-◌, ◌*◌, ◌/◌, List, get_or, sym, ap, subst, ◌∙◌, inl, inr, arith}
use Rattle.jr_flow.specs.Rows.{Has, Merges}
use Rattle.jr_flow.specs.Closure.{Derived, at_once, onward, Extends}
use Rattle.jr_flow.proofs.Words.{empty_word}

-- what is derived of derived rows is derived
pub derived_again : (width : ℕ) (steps old mid : List ℕ) → ((a c : ℕ) → c / 64 < width → Has mid width a c → Derived width steps old a c)
    → (a c : ℕ) → c / 64 < width → Derived width steps mid a c → Derived width steps old a c
derived_again width steps old mid f a c lt (at_once _ _ h) = f a c lt h
derived_again width steps old mid f a c lt (onward _ b _ inside step d) = onward a b c inside step (derived_again width steps old mid f b c lt d)

pub extends_none : (width : ℕ) (steps rows : List ℕ) → Extends width steps (λ a b. ⊥) rows rows
extends_none width steps rows = record {
  derived = λ a c lt h. at_once a c h;
  kept = λ a c h. h;
  merged = λ a b c none inside step lt h. absurd none;
}

-- one step whose row is merged
pub extends_merges : (width : ℕ) (steps : List ℕ) (node next : ℕ) (old new : List ℕ) → next / 64 < width → Has steps width node next → Merges width next node width old new
    → Extends width steps (λ a b. (a ≡ node) × (b ≡ next)) old new
extends_merges width steps node next old new inside step m = record {
  derived = λ a c lt h. by a c (m.only a c lt h);
  kept = m.kept;
  merged = λ a b c at in_row step lt h.
      subst (λ (n : ℕ). Has new width n c) (sym at.0) (m.has c lt (subst (λ (n : ℕ). Has old width n c) at.1 h));
}
  where
    by : (a c : ℕ) → (Has old width a c ⊎ ((a ≡ node) × Has old width next c)) → Derived width steps old a c
    by a c (inl h) = at_once a c h
    by a c (inr (is, h)) = subst (λ (n : ℕ). Derived width steps old n c) (sym is) (onward node next c inside step (at_once next c h))

-- where no step leads there
pub extends_past : (width : ℕ) (steps : List ℕ) (node next : ℕ) (rows : List ℕ) → (Has steps width node next → ⊥)
    → Extends width steps (λ a b. (a ≡ node) × (b ≡ next)) rows rows
extends_past width steps node next rows none = record {
  derived = λ a c lt h. at_once a c h;
  kept = λ a c h. h;
  merged = λ a b c at inside step lt h.
      absurd (none (subst (λ (n : ℕ). Has steps width n next) at.0 (subst (λ (n : ℕ). Has steps width a n) at.1 step)));
}

-- where a word has no step
pub extends_past_word : (width : ℕ) (steps : List ℕ) (node word : ℕ) (rows : List ℕ) → get_or steps (node * width + word) 0 ≡ 0
    → Extends width steps (λ a b. (a ≡ node) × (b / 64 ≡ word)) rows rows
extends_past_word width steps node word rows none = record {
  derived = λ a c lt h. at_once a c h;
  kept = λ a c h. h;
  merged = λ a b c at inside step lt h.
      absurd (empty_word steps width node b (ap (λ w. get_or steps (node * width + w) 0) at.1 ∙ none) (subst (λ (n : ℕ). Has steps width n b) at.0 step));
}

pub extends_more : (width : ℕ) (steps : List ℕ) (M N : ℕ → ℕ → Type 0) (old mid new : List ℕ) → Extends width steps M old mid → Extends width steps N mid new
    → Extends width steps (λ a b. M a b ⊎ N a b) old new
extends_more width steps M N old mid new first second = record {
  derived = λ a c lt h. derived_again width steps old mid first.derived a c lt (second.derived a c lt h);
  kept = λ a c h. second.kept a c (first.kept a c h);
  merged = λ a b c which inside step lt h. either a b c inside step lt h which;
}
  where
    either : (a b c : ℕ) → b / 64 < width → Has steps width a b → c / 64 < width → Has old width b c → (M a b ⊎ N a b) → Has new width a c
    either a b c inside step lt h (inl m) = second.kept a c (first.merged a b c m inside step lt h)
    either a b c inside step lt h (inr n) = second.merged a b c n inside step lt (first.kept b c h)

-- the same said of fewer steps
pub extends_part : (width : ℕ) (steps : List ℕ) (M N : ℕ → ℕ → Type 0) (old new : List ℕ) → ((a b : ℕ) → b / 64 < width → N a b → M a b) → Extends width steps M old new
    → Extends width steps N old new
extends_part width steps M N old new f e = record {
  derived = e.derived;
  kept = e.kept;
  merged = λ a b c n inside step lt h. e.merged a b c (f a b inside n) inside step lt h;
}

-- ---- one piece more, in loops

one_more : (n b : ℕ) → b < n + 1 → (b < n) ⊎ (b ≡ n)
one_more n b lt = grind arith

module _ (width : ℕ) (steps old mid new : List ℕ) where
  -- the steps of a word, by bits
  pub bit_more : (node word bit : ℕ) → Extends width steps (λ a b. (a ≡ node) × (b / 64 ≡ word) × (b < word * 64 + bit)) old mid
      → Extends width steps (λ a b. (a ≡ node) × (b ≡ word * 64 + bit)) mid new
      → Extends width steps (λ a b. (a ≡ node) × (b / 64 ≡ word) × (b < word * 64 + (bit + 1))) old new
  bit_more node word bit first second =
      extends_part width steps (λ a b. ((a ≡ node) × (b / 64 ≡ word) × (b < word * 64 + bit)) ⊎ ((a ≡ node) × (b ≡ word * 64 + bit)))
      (λ a b. (a ≡ node) × (b / 64 ≡ word) × (b < word * 64 + (bit + 1))) old new
      (λ a b inside at. by a b at (one_more (word * 64 + bit) b (omega (arith, at.2))))
      (extends_more width steps (λ a b. (a ≡ node) × (b / 64 ≡ word) × (b < word * 64 + bit)) (λ a b. (a ≡ node) × (b ≡ word * 64 + bit)) old mid new first second)
    where
      by : (a b : ℕ) → (a ≡ node) × (b / 64 ≡ word) × (b < word * 64 + (bit + 1)) → ((b < word * 64 + bit) ⊎ (b ≡ word * 64 + bit))
          → ((a ≡ node) × (b / 64 ≡ word) × (b < word * 64 + bit)) ⊎ ((a ≡ node) × (b ≡ word * 64 + bit))
      by a b at (inl below) = inl (at.0, at.1, below)
      by a b at (inr is) = inr (at.0, is)

  -- the steps of a node, by words
  pub word_more : (node word : ℕ) → Extends width steps (λ a b. (a ≡ node) × (b / 64 < word)) old mid
      → Extends width steps (λ a b. (a ≡ node) × (b / 64 ≡ word)) mid new
      → Extends width steps (λ a b. (a ≡ node) × (b / 64 < word + 1)) old new
  word_more node word first second =
      extends_part width steps (λ a b. ((a ≡ node) × (b / 64 < word)) ⊎ ((a ≡ node) × (b / 64 ≡ word)))
      (λ a b. (a ≡ node) × (b / 64 < word + 1)) old new
      (λ a b inside at. by a b at (one_more word (b / 64) at.1))
      (extends_more width steps (λ a b. (a ≡ node) × (b / 64 < word)) (λ a b. (a ≡ node) × (b / 64 ≡ word)) old mid new first second)
    where
      by : (a b : ℕ) → (a ≡ node) × (b / 64 < word + 1) → ((b / 64 < word) ⊎ (b / 64 ≡ word)) → ((a ≡ node) × (b / 64 < word)) ⊎ ((a ≡ node) × (b / 64 ≡ word))
      by a b at (inl below) = inl (at.0, below)
      by a b at (inr is) = inr (at.0, is)

  -- the nodes, the greatest first
  pub node_more : (node : ℕ) → 0 < node → Extends width steps (λ a b. (node ≤ a) × (a / 64 < width)) old mid
      → Extends width steps (λ a b. a ≡ node - 1) mid new
      → Extends width steps (λ a b. (node - 1 ≤ a) × (a / 64 < width)) old new
  node_more node some first second =
      extends_part width steps (λ a b. ((node ≤ a) × (a / 64 < width)) ⊎ (a ≡ node - 1))
      (λ a b. (node - 1 ≤ a) × (a / 64 < width)) old new
      (λ a b inside at. by a at (split a at.0))
      (extends_more width steps (λ a b. (node ≤ a) × (a / 64 < width)) (λ a b. a ≡ node - 1) old mid new first second)
    where
      split : (a : ℕ) → node - 1 ≤ a → (node ≤ a) ⊎ (a ≡ node - 1)
      split a low = grind arith

      by : (a : ℕ) → (node - 1 ≤ a) × (a / 64 < width) → ((node ≤ a) ⊎ (a ≡ node - 1)) → ((node ≤ a) × (a / 64 < width)) ⊎ (a ≡ node - 1)
      by a at (inl high) = inl (high, at.1)
      by a at (inr is) = inr is
