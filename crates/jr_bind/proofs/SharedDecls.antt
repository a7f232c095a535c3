-- Declarations that are shared, one more or none.
use Rattle.std.proofs.Common.{◌≡◌, List, [], ◌∷◌, ◌++◌, Option, Some, sym, subst, inl, inr}
use Rattle.std.specs.Prelude.{IfSome}
use Rattle.std.specs.List.{Contains}
use Rattle.jr_table.specs.Decls.{MemberKey}
use Rattle.jr_table.specs.KeyView.{decl_of}
use Rattle.jr_table.specs.Rows.{Row}
use Rattle.jr_bind.specs.declared.sharing.Shared as raw
use Rattle.jr_bind.specs.Targets.{target_decl, AreShared}
use Rattle.jr_bind.proofs.Bounding.{in_contains, contains_in, in_either}

module _ (rows : List Row) (k : MemberKey) where
  pub none_shared : (xs : List raw.Shared) → xs ≡ [] → AreShared rows k xs
  none_shared xs is = subst (AreShared rows k) (sym is) (λ x c. absurd (contains_in [] x c))

  pub one_more_shared : (xs ys : List raw.Shared) (s : raw.Shared) → ys ≡ xs ++ s ∷ [] → AreShared rows k xs
      → target_decl rows k s.target ≡ Some (decl_of s.decl.value) → AreShared rows k ys
  one_more_shared xs ys s is are new = subst (AreShared rows k) (sym is) each
    where
      each : AreShared rows k (xs ++ s ∷ [])
      each x c = elim (in_either xs (s ∷ []) x (contains_in (xs ++ s ∷ []) x c)) [
        | inl i ↦ are x (in_contains xs x i)
        | inr j ↦ elim j [
          | inl e ↦ subst (λ (z : raw.Shared). target_decl rows k z.target ≡ Some (decl_of z.decl.value)) e new
          | inr z ↦ absurd z
        ]
      ]

pub if_there : {X : Type 0} (P : X → Type 0) (o : Option X) (x : X) → o ≡ Some x → IfSome o P → P x
if_there P o x is h = subst (λ p. IfSome p P) is h
