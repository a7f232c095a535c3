-- A list with one element changed.
use Rattle.std.proofs.Common.{◌≡◌, ◌≢◌, ◌<◌, ℕ, zero, suc, List, [], ◌∷◌, Some, length, get_or, refl, sym, ap, arith}
use Rattle.std.proofs.Math.ListN.{set}
use Rattle.std.specs.List.{slice_get}

pub set_here : {T : Type 0} (xs : List T) (i : ℕ) (x y : T) → i < length xs → x ≡ get_or xs i x → (slice_get (set xs i y) i ≡ Some y) × (slice_get xs i ≡ Some x)
set_here [] i x y lt is = absurd (omega arith)
set_here (z ∷ xs) zero x y lt is = (refl, ap Some (sym is))
set_here (z ∷ xs) (suc i) x y lt is = set_here xs i x y (omega arith) is

-- the same where what stood there isn't known
pub set_at : {T : Type 0} (xs : List T) (i : ℕ) (y : T) → i < length xs → slice_get (set xs i y) i ≡ Some y
set_at [] i y lt = absurd (omega arith)
set_at (z ∷ xs) zero y lt = refl
set_at (z ∷ xs) (suc i) y lt = set_at xs i y (omega arith)

pub set_there : {T : Type 0} (xs : List T) (i c : ℕ) (y : T) → c ≢ i → slice_get (set xs i y) c ≡ slice_get xs c
set_there [] i c y n = refl
set_there (z ∷ xs) zero zero y n = absurd (n refl)
set_there (z ∷ xs) zero (suc c) y n = refl
set_there (z ∷ xs) (suc i) zero y n = refl
set_there (z ∷ xs) (suc i) (suc c) y n = set_there xs i c y (λ e. n (ap suc e))
