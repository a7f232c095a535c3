-- The local of the least number that has a property.
use Rattle.std.proofs.Common.{◌≡◌, ℕ, ◌≤◌, Option, Some, None, Bool, true, false, refl, inl, inr, arith}
use Rattle.std.specs.Prelude.{◌⊎◌, nat_lt, if◌then◌else◌}
use Rattle.std.proofs.lemmas.Bool.{ltb-true, ltb-false}
use Rattle.jr_table.specs.Decls.{MemberKey, LocalKey}
use Rattle.jr_rename.specs.Walks.{least_of, if_so}

abbrev pub numbered : MemberKey → ℕ → LocalKey
numbered m n = record { member = m; number = n }

module _ (m : MemberKey) where
  abbrev pub LeastOf : (LocalKey → Type 0) → Option ℕ → Type 0
  LeastOf P None = (j : LocalKey) → P j → ⊥
  LeastOf P (Some n) = P (numbered m n) × ((j : LocalKey) → P j → n ≤ j.number)

  pub least_to : (P Q : LocalKey → Type 0) (o : Option ℕ) → ((j : LocalKey) → P j → Q j) → ((j : LocalKey) → Q j → P j) → LeastOf P o → LeastOf Q o
  least_to P Q None to back h = λ j q. h j (back j q)
  least_to P Q (Some n) to back h = (to (numbered m n) h.0, λ j q. h.1 j (back j q))

  pub least_both : (P Q : LocalKey → Type 0) (a b : Option ℕ) → LeastOf P a → LeastOf Q b → LeastOf (λ j. P j ⊎ Q j) (least_of a b)
  least_both P Q None None f g = λ j h. elim h [ inl p ↦ f j p | inr q ↦ g j q ]
  least_both P Q None (Some n) f g = (inr g.0, λ j h. elim h [ inl p ↦ absurd (f j p) | inr q ↦ g.1 j q ])
  least_both P Q (Some k) None f g = (inl f.0, λ j h. elim h [ inl p ↦ f.1 j p | inr q ↦ absurd (g j q) ])
  least_both P Q (Some k) (Some n) f g = by (nat_lt n k) refl
    where
      by : (b : Bool) → nat_lt n k ≡ b → LeastOf (λ j. P j ⊎ Q j) (if b then Some n else Some k)
      by true is = let lt = ltb-true n k is in (inr g.0, λ j h. elim h [ inl p ↦ (let le = f.1 j p in omega (arith, lt, le)) | inr q ↦ g.1 j q ])
      by false is = let past = ltb-false n k is in (inl f.0, λ j h. elim h [ inl p ↦ f.1 j p | inr q ↦ (let le = g.1 j q in omega (arith, past, le)) ])

  -- one number, where a test says whether it is one
  pub least_one : (P : LocalKey → Type 0) (b : Bool) (n : ℕ) → (b ≡ true → P (numbered m n)) → ((j : LocalKey) → P j → (b ≡ true) × (j.number ≡ n)) → LeastOf P (if_so b n)
  least_one P true n to back = (to refl, λ j p. let e = (back j p).1 in omega (arith, e))
  least_one P false n to back = λ j p. let e = (back j p).0 in absurd cc

  -- where none has the other
  pub least_left : (P Q : LocalKey → Type 0) (o : Option ℕ) → ((j : LocalKey) → Q j → ⊥) → LeastOf P o → LeastOf (λ j. P j ⊎ Q j) o
  least_left P Q o lacks h = least_to P (λ j. P j ⊎ Q j) o (λ j p. inl p) (λ j q. elim q [ inl p ↦ p | inr q ↦ absurd (lacks j q) ]) h
