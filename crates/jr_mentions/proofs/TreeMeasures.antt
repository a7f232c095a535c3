-- A call of a tree's part has a smaller measure.
use Rattle.std.proofs.Common.{◌≡◌, ℕ, zero, suc, ◌+◌, ◌*◌, ◌<◌, ◌≤◌, List, [], ◌∷◌, length, get_or, ap, arith}

pub less : (n t : ℕ) → n + 1 < t → n < t
less n t h = omega arith

module _ {T : Type 0} (size : T → ℕ) where
  pub falls_left : (whole n : ℕ) (child shown : T) (t : ℕ) → shown ≡ child → whole ≡ suc (size child + n) → 2 * whole ≡ t → 2 * size shown + 1 < t
  falls_left whole n child shown t e w h = let s = ap size e in omega arith

  pub falls_right : (whole n : ℕ) (child shown : T) (t : ℕ) → shown ≡ child → whole ≡ suc (n + size child) → 2 * whole ≡ t → 2 * size shown + 1 < t
  falls_right whole n child shown t e w h = let s = ap size e in omega arith

  pub falls_only : (whole : ℕ) (child shown : T) (t : ℕ) → shown ≡ child → whole ≡ suc (size child) → 2 * whole ≡ t → 2 * size shown + 1 < t
  falls_only whole child shown t e w h = let s = ap size e in omega arith

pub falls_held : (n whole t : ℕ) → n ≡ whole → 2 * whole + 1 ≡ t → 2 * n < t
falls_held n whole t e h = omega arith

module _ {T : Type 0} (size : T → ℕ) (all : List T → ℕ) (adds : (x : T) (xs : List T) → all (x ∷ xs) ≡ size x + all xs) where
  within : (row : List T) (i : ℕ) (x : T) → i < length row → x ≡ get_or row i x → size x ≤ all row
  within [] i x lt e = absurd (omega arith)
  within (y ∷ ys) zero x lt e = let s = ap size e in let a = adds y ys in omega arith
  within (y ∷ ys) (suc i) x lt e = let h = within ys i x (omega arith) e in let a = adds y ys in omega arith

  pub falls_item : (row : List T) (i : ℕ) (x : T) (t : ℕ) → i < length row → x ≡ get_or row i x → 2 * all row + 1 ≡ t → 2 * size x < t
  falls_item row i x t lt e h = let s = within row i x lt e in omega arith
