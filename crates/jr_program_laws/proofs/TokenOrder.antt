-- Tokens one behind the other: where each begins, and that what begins in front comes before what begins behind.
use Rattle.std.proofs.Common.{◌≡◌, ℕ, ◌<◌, ◌≤◌, [], ◌∷◌, ◌++◌, refl, sym, ap, subst, ◌∙◌, inl, inr, append_assoc, arith}
use Rattle.std.specs.Prelude.{◌⊎◌}
use Rattle.std.proofs.lemmas.List.{append-nil}
use Rattle.jr_grammar.specs.Stands.{Tokens, first_from, last_to}

-- one of them begins there
abbrev pub StartsIn : Tokens → ℕ → Type 0
StartsIn [] at = ⊥
StartsIn (p ∷ ps) at = (at ≡ p.mark.from) ⊎ StartsIn ps at

-- each has a byte at least, and ends before the next begins
abbrev pub Rising : Tokens → Type 0
Rising [] = Unit {0}
Rising (p ∷ ps) = (p.mark.from < p.mark.to) × ((at : ℕ) → StartsIn ps at → p.mark.to ≤ at) × Rising ps

pub in_front : (a b : Tokens) (at : ℕ) → StartsIn a at → StartsIn (a ++ b) at
in_front [] b at h = absurd h
in_front (p ∷ a) b at (inl e) = inl e
in_front (p ∷ a) b at (inr h) = inr (in_front a b at h)

pub in_back : (a b : Tokens) (at : ℕ) → StartsIn b at → StartsIn (a ++ b) at
in_back [] b at h = h
in_back (p ∷ a) b at h = inr (in_back a b at h)

pub rising_front : (a b : Tokens) → Rising (a ++ b) → Rising a
rising_front [] b h = tt
rising_front (p ∷ a) b h = (h.0, λ at s. h.1 at (in_front a b at s), rising_front a b h.2)

pub rising_back : (a b : Tokens) → Rising (a ++ b) → Rising b
rising_back [] b h = h
rising_back (p ∷ a) b h = rising_back a b h.2

-- what begins in front comes before what begins behind
pub before : (a b : Tokens) → Rising (a ++ b) → (i j : ℕ) → StartsIn a i → StartsIn b j → i < j
before [] b h i j r s = absurd r
before (p ∷ a) b h i j (inl e) s = let from = h.0 in let to = h.1 j (in_back a b j s) in omega arith
before (p ∷ a) b h i j (inr r) s = before a b h.2 i j r s

-- the first is where they begin, and the last ends behind each beginning
pub from_first : (ps : Tokens) → Rising ps → (at : ℕ) → StartsIn ps at → first_from ps ≤ at
from_first [] h at s = absurd s
from_first (p ∷ ps) h at (inl e) = omega arith
from_first (p ∷ ps) h at (inr s) = let from = h.0 in let to = h.1 at s in omega arith

pub to_last : (ps : Tokens) → Rising ps → (at : ℕ) → StartsIn ps at → at < last_to ps
to_last [] h at s = absurd s
to_last (p ∷ []) h at (inl e) = omega arith
to_last (p ∷ []) h at (inr s) = absurd s
to_last (p ∷ q ∷ ps) h at (inl e) = let from = h.0 in let next = h.1 q.mark.from (inl refl) in let last = to_last (q ∷ ps) h.2 q.mark.from (inl refl) in omega arith
to_last (p ∷ q ∷ ps) h at (inr s) = to_last (q ∷ ps) h.2 at s

-- there is one
abbrev pub Filled : Tokens → Type 0
Filled [] = ⊥
Filled (p ∷ ps) = Unit {0}

pub starts_first : (ps : Tokens) → Filled ps → StartsIn ps (first_from ps)
starts_first [] f = absurd f
starts_first (p ∷ ps) f = inl refl

pub filled_front : (a b : Tokens) → Filled a → Filled (a ++ b)
filled_front [] b f = absurd f
filled_front (p ∷ a) b f = tt

pub filled_back : (a b : Tokens) → Filled b → Filled (a ++ b)
filled_back [] b f = f
filled_back (p ∷ a) b f = tt

-- what is in front ends before what is behind begins
pub last_before : (a b : Tokens) → Rising (a ++ b) → Filled a → (at : ℕ) → StartsIn b at → last_to a ≤ at
last_before [] b h f at s = absurd f
last_before (p ∷ []) b h f at s = h.1 at s
last_before (p ∷ q ∷ a) b h f at s = last_before (q ∷ a) b h.2 tt at s

-- ---- some of all, one behind the other

pub record Piece (all ps : Tokens) : Type 0 where
  pub front : Tokens
  pub back : Tokens
  pub whole : all ≡ front ++ (ps ++ back)

module _ (all a b ps : Tokens) (w : ps ≡ a ++ b) (piece : Piece all ps) where
  parted : all ≡ piece.front ++ (a ++ (b ++ piece.back))
  parted = piece.whole ∙ ap (λ (x : Tokens). piece.front ++ (x ++ piece.back)) w ∙ ap (λ (x : Tokens). piece.front ++ x) (append_assoc a b piece.back)

  pub front_piece : Piece all a
  front_piece = record { front = piece.front; back = b ++ piece.back; whole = parted }

  pub back_piece : Piece all b
  back_piece = record { front = piece.front ++ a; back = piece.back; whole = parted ∙ sym (append_assoc piece.front a (b ++ piece.back)) }

pub piece_rises : (all ps : Tokens) → Rising all → Piece all ps → Rising ps
piece_rises all ps h piece = rising_front ps piece.back (rising_back piece.front (ps ++ piece.back) (subst Rising piece.whole h))

pub whole_piece : (all : Tokens) → Piece all all
whole_piece all = record { front = []; back = []; whole = sym (append-nil all) }
