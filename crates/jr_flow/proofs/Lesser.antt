-- The least number of some, one more at a time.
use Rattle.std.proofs.Common.{◌≡◌, ◌⊎◌, ◌≤◌, ℕ, List, [], ◌∷◌, ◌++◌, Option, Some, None, sym, subst, inl, inr, arith}
use Rattle.std.specs.Prelude.{Contains, ◌↔◌}
use Rattle.std.proofs.lemmas.List.Elements.{Contains-append_left, Contains-push, Contains-push_cases}
use Rattle.jr_flow.specs.Least.{IsLeast}
use Rattle.jr_flow.proofs.Filled.{contains_none}

pub least_none : (P : ℕ → Type 0) → IsLeast P [] None
least_none P n at p = contains_none n at

pub least_alike : (P Q : ℕ → Type 0) → ((n : ℕ) → (P n ↔ Q n)) → (numbers : List ℕ) (o : Option ℕ) → IsLeast P numbers o → IsLeast Q numbers o
least_alike P Q f numbers None h = λ n at q. h n at ((f n).1 q)
least_alike P Q f numbers (Some least) h = (h.0, (f least).0 h.1, λ n at q. h.2 n at ((f n).1 q))

module _ (P : ℕ → Type 0) (numbers : List ℕ) (number : ℕ) where
  either : (n : ℕ) → Contains (numbers ++ number ∷ []) n → Contains numbers n ⊎ (number ≡ n)
  either n at = Contains-push_cases numbers number n at

  -- a number of which it doesn't hold
  pub least_past : (o : Option ℕ) → (P number → ⊥) → IsLeast P numbers o → IsLeast P (numbers ++ number ∷ []) o
  least_past None never h = λ n at p. by n p (either n at)
    where
      by : (n : ℕ) → P n → (Contains numbers n ⊎ (number ≡ n)) → ⊥
      by n p (inl at) = h n at p
      by n p (inr is) = never (subst P (sym is) p)
  least_past (Some least) never h = (Contains-append_left numbers (number ∷ []) least h.0, h.1, λ n at p. by n p (either n at))
    where
      by : (n : ℕ) → P n → (Contains numbers n ⊎ (number ≡ n)) → least ≤ n
      by n p (inl at) = h.2 n at p
      by n p (inr is) = absurd (never (subst P (sym is) p))

  pub least_first : P number → IsLeast P numbers None → IsLeast P (numbers ++ number ∷ []) (Some number)
  least_first holds h = (Contains-push numbers number, holds, λ n at p. by n p (either n at))
    where
      by : (n : ℕ) → P n → (Contains numbers n ⊎ (number ≡ n)) → number ≤ n
      by n p (inl at) = absurd (h n at p)
      by n p (inr is) = omega arith

  pub least_lower : (least : ℕ) → P number → number ≤ least → IsLeast P numbers (Some least) → IsLeast P (numbers ++ number ∷ []) (Some number)
  least_lower least holds lower h = (Contains-push numbers number, holds, λ n at p. by n p (either n at))
    where
      by : (n : ℕ) → P n → (Contains numbers n ⊎ (number ≡ n)) → number ≤ n
      by n p (inl at) = let low = h.2 n at p in omega arith
      by n p (inr is) = omega arith

  pub least_higher : (least : ℕ) → least ≤ number → IsLeast P numbers (Some least) → IsLeast P (numbers ++ number ∷ []) (Some least)
  least_higher least higher h = (Contains-append_left numbers (number ∷ []) least h.0, h.1, λ n at p. by n p (either n at))
    where
      by : (n : ℕ) → P n → (Contains numbers n ⊎ (number ≡ n)) → least ≤ n
      by n p (inl at) = h.2 n at p
      by n p (inr is) = omega arith
