-- What stands behind `super` finds one thing.
use Rattle.std.proofs.Common.{◌≡◌, List, Some, sym, subst, ◌∙◌, inl, inr}
use Rattle.jr_table.specs.Keys.{ClassKey}
use Rattle.jr_table.specs.Rows.{Row}
use Rattle.jr_table.specs.Found.{Found}
use Rattle.jr_table.specs.Conditions.{AreRows}
use Rattle.jr_table.specs.Context.{IsSuperclass}
use Rattle.jr_table.specs.Binding.{FindsIn}
use Rattle.jr_new_words.proofs.Parents.{superclass_exact}

-- what is found in the one class that has the property
pub in_one : (Class : ClassKey → Type 0) → ((k l : ClassKey) → Class k → Class l → k ≡ l) → (Finds : ClassKey → Found → Type 0)
    → ((k : ClassKey) (a b : Found) → Finds k a → Finds k b → a ≡ b) → (a b : Found) → FindsIn Class Finds a → FindsIn Class Finds b → a ≡ b
in_one Class same Finds one a b (inl (k, is, finds)) (inl (l, also, others)) = one l a b (subst (λ m. Finds m a) (same k l is also) finds) others
in_one Class same Finds one a b (inl (k, is, finds)) (inr (never, nothing)) = absurd (never k is)
in_one Class same Finds one a b (inr (never, nothing)) (inl (l, also, others)) = absurd (never l also)
in_one Class same Finds one a b (inr (never, nothing)) (inr (none, other)) = nothing ∙ sym other

one_superclass : (rows : List Row) → AreRows rows → (c k l : ClassKey) → IsSuperclass rows c k → IsSuperclass rows c l → k ≡ l
one_superclass rows are c k l is also =
    let e : Some k ≡ Some l = sym ((superclass_exact rows are c k).1 is) ∙ (superclass_exact rows are c l).1 also in
    cc

pub super_one : (rows : List Row) → AreRows rows → (c : ClassKey) → (Finds : ClassKey → Found → Type 0)
    → ((k : ClassKey) (a b : Found) → Finds k a → Finds k b → a ≡ b) → (a b : Found)
    → FindsIn (IsSuperclass rows c) Finds a → FindsIn (IsSuperclass rows c) Finds b → a ≡ b
super_one rows are c Finds one = in_one (IsSuperclass rows c) (one_superclass rows are c) Finds one
