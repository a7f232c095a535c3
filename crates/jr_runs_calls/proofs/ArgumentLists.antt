-- Lists of arguments that come one by one.
use Rattle.std.proofs.Common.{◌≡◌, ℕ, zero, suc, List, [], ◌∷◌, ◌++◌, length, refl, ap}
use Rattle.jr_runs.specs.Keys.{Keys}
use Rattle.jr_runs.specs.Values.{Value}
use Rattle.jr_runs.specs.Evaluation.{local_at, first_locals}

module _ {K : Keys} where
  pub last_at : (vs : List (Value K)) (v : Value K) → local_at (vs ++ (v ∷ [])) (length vs) ≡ v
  last_at [] v = refl
  last_at (u ∷ vs) v = last_at vs v

  pub other_at : (vs : List (Value K)) (v : Value K) (i : ℕ) → (i ≡ length vs → ⊥) → local_at vs i ≡ local_at (vs ++ (v ∷ [])) i
  other_at [] v zero d = absurd (d refl)
  other_at [] v (suc i) d = refl
  other_at (u ∷ vs) v zero d = refl
  other_at (u ∷ vs) v (suc i) d = other_at vs v i (λ e. d (ap suc e))

  pub length_one_more : (vs : List (Value K)) (v : Value K) → length (vs ++ (v ∷ [])) ≡ suc (length vs)
  length_one_more [] v = refl
  length_one_more (u ∷ vs) v = ap suc (length_one_more vs v)

  pub first_all : (vs : List (Value K)) → first_locals (length vs) vs ≡ vs
  first_all [] = refl
  first_all (v ∷ vs) = ap (λ l. v ∷ l) (first_all vs)
