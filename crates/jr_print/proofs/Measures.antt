-- A call of a tree's part has a smaller measure.
use Rattle.std.proofs.Common.{◌≡◌, ℕ, zero, suc, ◌+◌, ◌*◌, ◌<◌, ◌≤◌, List, [], ◌∷◌, length, get_or, ap, sym, ◌∙◌, arith}

pub less : (n t : ℕ) → n + 3 < t → n < t
less n t h = omega arith

pub less_one : (n t : ℕ) → n + 3 < t → n + 1 < t
less_one n t h = omega arith

pub less_two : (n t : ℕ) → n + 3 < t → n + 2 < t
less_two n t h = omega arith

module _ {T : Type 0} (size : T → ℕ) where
  pub falls_left : (whole n : ℕ) (child shown : T) (t : ℕ) → shown ≡ child → whole ≡ suc (size child + n) → 4 * whole ≡ t → 4 * size shown + 3 < t
  falls_left whole n child shown t e w h = let s = ap size e in omega arith

  pub falls_right : (whole n : ℕ) (child shown : T) (t : ℕ) → shown ≡ child → whole ≡ suc (n + size child) → 4 * whole ≡ t → 4 * size shown + 3 < t
  falls_right whole n child shown t e w h = let s = ap size e in omega arith

  pub falls_only : (whole : ℕ) (child shown : T) (t : ℕ) → shown ≡ child → whole ≡ suc (size child) → 4 * whole ≡ t → 4 * size shown + 3 < t
  falls_only whole child shown t e w h = let s = ap size e in omega arith

pub falls_held : (n whole t : ℕ) → n ≡ whole → 4 * whole + 1 ≡ t → 4 * n < t
falls_held n whole t e h = omega arith

-- the same row, passed on
pub falls_same : (k n whole t : ℕ) → n ≡ whole → 4 * whole + suc k ≡ t → 4 * n + k < t
falls_same k n whole t e h = omega arith

module _ {T : Type 0} (size : T → ℕ) (all : List T → ℕ) (adds : (x : T) (xs : List T) → all (x ∷ xs) ≡ size x + all xs) where
  within : (row : List T) (i : ℕ) (x : T) → i < length row → x ≡ get_or row i x → size x ≤ all row
  within [] i x lt e = absurd (omega arith)
  within (y ∷ ys) zero x lt e = let s = ap size e in let a = adds y ys in omega arith
  within (y ∷ ys) (suc i) x lt e = let h = within ys i x (omega arith) e in let a = adds y ys in omega arith

  pub falls_item : (row : List T) (i : ℕ) (x : T) (t : ℕ) → i < length row → x ≡ get_or row i x → 4 * all row + 1 ≡ t → 4 * size x < t
  falls_item row i x t lt e h = let s = within row i x lt e in omega arith

  pub falls_first : (row : List T) (x shown : T) (xs : List T) (t : ℕ) → row ≡ x ∷ xs → shown ≡ x → 4 * all row + 2 ≡ t → 4 * size shown < t
  falls_first row x shown xs t e s h = let r = ap all e ∙ adds x xs in let z = ap size s in omega arith

  pub falls_rest : (row : List T) (x : T) (xs shown : List T) (t : ℕ) → row ≡ x ∷ xs → shown ≡ xs → 4 * all row + 2 ≡ t → 4 * all shown + 1 < t
  falls_rest row x xs shown t e s h = let r = ap all e ∙ adds x xs in let z = ap all s in omega arith
