-- New numbers of locals: those in front of a place stay, and those from it on move by one.
use Rattle.std.proofs.Common.{◌≡◌, ℕ, zero, suc, ◌+◌, ◌<◌, ◌≤◌, [], ◌∷◌, ◌++◌, length, Some, None, refl, ap, ◌∙◌, arith}
use Rattle.std.specs.Prelude.{slice_get}
use Rattle.jr_local_walks.specs.Mappings.{numbers_from}

pub count_is : (i k : ℕ) → length (numbers_from i k) ≡ k
count_is i zero = refl
count_is i (suc k) = ap suc (count_is (suc i) k)

pub number_at : (i k j : ℕ) → j < k → slice_get (numbers_from i k) j ≡ Some (Some (i + j))
number_at i zero j less = let l = less in absurd (omega (arith, l))
number_at i (suc k) zero less = ap (λ (n : ℕ). Some (Some n)) (let e : i ≡ i + 0 = omega arith in e)
number_at i (suc k) (suc j) less = number_at (suc i) k j (let l = less in omega (arith, l)) ∙ ap (λ (n : ℕ). Some (Some n)) (let e : suc i + j ≡ i + suc j = omega arith in e)

pub none_past : (i k j : ℕ) → k ≤ j → slice_get (numbers_from i k) j ≡ None
none_past i zero j le = refl
none_past i (suc k) zero le = let l = le in absurd (omega (arith, l))
none_past i (suc k) (suc j) le = none_past (suc i) k j (let l = le in omega (arith, l))

-- with one behind them that is gone
pub number_before : (i k j : ℕ) → j < k → slice_get (numbers_from i k ++ None ∷ []) j ≡ Some (Some (i + j))
number_before i zero j less = let l = less in absurd (omega (arith, l))
number_before i (suc k) zero less = ap (λ (n : ℕ). Some (Some n)) (let e : i ≡ i + 0 = omega arith in e)
number_before i (suc k) (suc j) less = number_before (suc i) k j (let l = less in omega (arith, l)) ∙ ap (λ (n : ℕ). Some (Some n)) (let e : suc i + j ≡ i + suc j = omega arith in e)

pub gone_at : (i k : ℕ) → slice_get (numbers_from i k ++ None ∷ []) k ≡ Some None
gone_at i zero = refl
gone_at i (suc k) = gone_at (suc i) k

pub none_behind : (i k j : ℕ) → k < j → slice_get (numbers_from i k ++ None ∷ []) j ≡ None
none_behind i zero zero less = let l = less in absurd (omega (arith, l))
none_behind i zero (suc j) less = refl
none_behind i (suc k) zero less = let l = less in absurd (omega (arith, l))
none_behind i (suc k) (suc j) less = none_behind (suc i) k j (let l = less in omega (arith, l))

pub one_more_is : (i k : ℕ) → length (numbers_from i k ++ None ∷ []) ≡ suc k
one_more_is i zero = refl
one_more_is i (suc k) = ap suc (one_more_is (suc i) k)

-- from 0 on
pub first_number : (k j : ℕ) → j < k → slice_get (numbers_from 0 k) j ≡ Some (Some j)
first_number k j less = number_at 0 k j less ∙ ap (λ (n : ℕ). Some (Some n)) (let e : 0 + j ≡ j = omega arith in e)

pub first_before : (k j : ℕ) → j < k → slice_get (numbers_from 0 k ++ None ∷ []) j ≡ Some (Some j)
first_before k j less = number_before 0 k j less ∙ ap (λ (n : ℕ). Some (Some n)) (let e : 0 + j ≡ j = omega arith in e)
