-- Rows of numbers and of edges, one more at a time.
use Rattle.std.proofs.Common.{◌≡◌, ◌⊎◌, ◌<◌, ◌≤◌, ℕ, ◌/◌, List, [], ◌∷◌, ◌++◌, sym, ap, subst, inl, inr, arith}
use Rattle.std.proofs.Math.ListN.{replicate}
use Rattle.std.specs.Prelude.{Contains}
use Rattle.std.proofs.lemmas.List.Elements.{All-contains, Contains-append_left, Contains-push, Contains-push_cases}
use Rattle.jr_flow.specs.Edges.{EdgeOf, AreBelow}
use Rattle.jr_flow.specs.Rows.{Has, Puts, width_of}
use Rattle.jr_flow.specs.Holding.{HoldsNumbers, HoldsEdges}
use Rattle.jr_flow.proofs.Words.{no_bits}

-- the two nodes of an edge
pub edge_ends : (edges : List (ℕ × ℕ)) (size : ℕ) → AreBelow size edges → (a b : ℕ) → EdgeOf edges a b → (a < size) × (b < size)
edge_ends edges size below a b e = All-contains (λ (p : ℕ × ℕ). (p.0 < size) × (p.1 < size)) edges (a, b) below e

pub edge_rows : (edges : List (ℕ × ℕ)) (size width : ℕ) → AreBelow size edges → width ≡ width_of size → (a b : ℕ) → EdgeOf edges a b → (a / 64 < width) × (b / 64 < width)
edge_rows edges size width below wide a b e = let ends = edge_ends edges size below a b e in (omega arith, omega arith)

pub contains_none : {X : Type 0} (x : X) → Contains [] x → ⊥
contains_none x at = let none = at.1 in omega arith

pub numbers_none : (width n : ℕ) (words : List ℕ) → words ≡ replicate n 0 → HoldsNumbers width [] words
numbers_none width n words is = record {
  has = λ m lt at. absurd (contains_none m at);
  only = λ m lt h. absurd (no_bits n words is width 0 m h);
}

pub numbers_more : (width : ℕ) (numbers : List ℕ) (number : ℕ) (old new : List ℕ) → Puts width 0 number old new → HoldsNumbers width numbers old
    → HoldsNumbers width (numbers ++ number ∷ []) new
numbers_more width numbers number old new p h = record {
  has = λ n lt at. has_next n lt (Contains-push_cases numbers number n at);
  only = λ n lt bit. only_next n lt (p.only 0 n lt bit);
}
  where
    has_next : (n : ℕ) → n / 64 < width → (Contains numbers n ⊎ (number ≡ n)) → Has new width 0 n
    has_next n lt (inl at) = p.kept 0 n (h.has n lt at)
    has_next n lt (inr is) = subst (λ (m : ℕ). Has new width 0 m) is p.has

    only_next : (n : ℕ) → n / 64 < width → (Has old width 0 n ⊎ ((◌≡◌ {A = ℕ} 0 0) × (n ≡ number))) → Contains (numbers ++ number ∷ []) n
    only_next n lt (inl bit) = Contains-append_left numbers (number ∷ []) n (h.only n lt bit)
    only_next n lt (inr at) = subst (λ (m : ℕ). Contains (numbers ++ number ∷ []) m) (sym at.1) (Contains-push numbers number)

-- a number that has no bit
pub numbers_past : (width : ℕ) (numbers : List ℕ) (number : ℕ) (words : List ℕ) → width ≤ number / 64 → HoldsNumbers width numbers words
    → HoldsNumbers width (numbers ++ number ∷ []) words
numbers_past width numbers number words past h = record {
  has = λ n lt at. has_next n lt (Contains-push_cases numbers number n at);
  only = λ n lt bit. Contains-append_left numbers (number ∷ []) n (h.only n lt bit);
}
  where
    has_next : (n : ℕ) → n / 64 < width → (Contains numbers n ⊎ (number ≡ n)) → Has words width 0 n
    has_next n lt (inl at) = h.has n lt at
    has_next n lt (inr is) = let word : number / 64 ≡ n / 64 = ap (λ m. m / 64) is in absurd (omega arith)

pub edges_none : (width : ℕ) (stops : List ℕ) (n : ℕ) (words : List ℕ) → words ≡ replicate n 0 → HoldsEdges width stops [] words
edges_none width stops n words is = record {
  has = λ a b at free. absurd (contains_none {X = ℕ × ℕ} (a, b) at);
  only = λ a b lt h. absurd (no_bits n words is width a b h);
}

module _ (width : ℕ) (stops : List ℕ) (edges : List (ℕ × ℕ)) (from to : ℕ) (old : List ℕ) (h : HoldsEdges width stops edges old) where
  -- an edge is put
  pub edges_more : (new : List ℕ) → (Has stops width 0 to → ⊥) → Puts width from to old new → HoldsEdges width stops (edges ++ (from, to) ∷ []) new
  edges_more new unshut p = record {
    has = λ a b at free. has_next a b free (Contains-push_cases edges (from, to) (a, b) at);
    only = λ a b lt bit. only_next a b lt (p.only a b lt bit);
  }
    where
      has_next : (a b : ℕ) → (Has stops width 0 b → ⊥) → (Contains edges (a, b) ⊎ (◌≡◌ {A = ℕ × ℕ} (from, to) (a, b))) → Has new width a b
      has_next a b free (inl at) = p.kept a b (h.has a b at free)
      has_next a b free (inr is) = subst (λ (e : ℕ × ℕ). Has new width e.0 e.1) is p.has

      only_next : (a b : ℕ) → b / 64 < width → (Has old width a b ⊎ ((a ≡ from) × (b ≡ to)))
          → EdgeOf (edges ++ (from, to) ∷ []) a b × (Has stops width 0 b → ⊥)
      only_next a b lt (inl bit) = let k = h.only a b lt bit in (Contains-append_left edges ((from, to) ∷ []) (a, b) k.0, k.1)
      only_next a b lt (inr at) = (
        subst (λ (n : ℕ). EdgeOf (edges ++ (from, to) ∷ []) n b) (sym at.0) (subst (λ (n : ℕ). EdgeOf (edges ++ (from, to) ∷ []) from n) (sym at.1) (Contains-push edges (from, to))),
        λ stop. unshut (subst (λ (n : ℕ). Has stops width 0 n) at.1 stop),
      )

  -- an edge is left out, since it leads to a stop
  pub edges_shut : Has stops width 0 to → HoldsEdges width stops (edges ++ (from, to) ∷ []) old
  edges_shut shut = record {
    has = λ a b at free. has_next a b free (Contains-push_cases edges (from, to) (a, b) at);
    only = λ a b lt bit. let k = h.only a b lt bit in (Contains-append_left edges ((from, to) ∷ []) (a, b) k.0, k.1);
  }
    where
      has_next : (a b : ℕ) → (Has stops width 0 b → ⊥) → (Contains edges (a, b) ⊎ (◌≡◌ {A = ℕ × ℕ} (from, to) (a, b))) → Has old width a b
      has_next a b free (inl at) = h.has a b at free
      has_next a b free (inr is) = absurd (free (subst (λ (e : ℕ × ℕ). Has stops width 0 e.1) is shut))
