-- The least number that has a property.
use Rattle.std.proofs.Common.{◌≡◌, ℕ, ◌≤◌, min, Option, Some, None, sym, ap, subst, ◌∙◌, inl, inr, arith}
use Rattle.std.specs.Prelude.{◌⊎◌}
use Rattle.std.proofs.Math.Nat.{min-eq_left, min-eq_right}
use Rattle.jr_build_declared.specs.DeclarationFaults.{IsLeastAt}
use Rattle.jr_build_rows.specs.TypeFaults.{lesser}

pub same_least : (P Q : ℕ → Type 0) → ((a : ℕ) → P a → Q a) → ((a : ℕ) → Q a → P a)
    → (r : Option ℕ) → IsLeastAt P r → IsLeastAt Q r
same_least P Q to from None h = λ a q. h a (from a q)
same_least P Q to from (Some a) h = (to a h.0, λ b q. h.1 b (from b q))

on_either : {P Q R : Type 0} → (P → R) → (Q → R) → P ⊎ Q → R
on_either f g (inl x) = f x
on_either f g (inr y) = g y

-- one of two properties
pub least_of : (P Q : ℕ → Type 0) (a b : Option ℕ) → IsLeastAt P a → IsLeastAt Q b
    → IsLeastAt (λ n. P n ⊎ Q n) (lesser a b)
least_of P Q None None h k = λ n. on_either (h n) (k n)
least_of P Q None (Some q) h k = (inr k.0, λ n. on_either (λ x. absurd (h n x)) (k.1 n))
least_of P Q (Some p) None h k = (inl h.0, λ n. on_either (h.1 n) (λ y. absurd (k n y)))
least_of P Q (Some p) (Some q) h k = by (order p q)
  where
    order : (x y : ℕ) → (x ≤ y) ⊎ (y ≤ x)
    order x y = grind arith

    by : ((p ≤ q) ⊎ (q ≤ p)) → IsLeastAt (λ n. P n ⊎ Q n) (Some (min p q))
    by (inl le) = subst (λ m. IsLeastAt (λ n. P n ⊎ Q n) (Some m)) (sym (min-eq_left le))
        (inl h.0, λ n. on_either (h.1 n) (λ y. let z = k.1 n y in omega (arith, le, z)))
    by (inr le) = subst (λ m. IsLeastAt (λ n. P n ⊎ Q n) (Some m)) (sym (min-eq_right le))
        (inr k.0, λ n. on_either (λ x. let z = h.1 n x in omega (arith, le, z)) (k.1 n))
