-- Two parts that agree, along what they are of.
use Rattle.std.proofs.Common.{◌≡◌, ◌⊎◌, Bool, Option, subst, ⊎_elim}
use Rattle.std.specs.Prelude.{IsTrue, ◌↔◌, ◌&&◌, ◌||◌}
use Rattle.std.proofs.lemmas.Bool.{and_parts, and_from, or_cases, or_left, or_right}
use Rattle.jr_sync.specs.Relations.{Agree}

pub agree_along : {X : Type 0} (R : X → X → Type 0) (r : Bool) (x y u v : Option X) → x ≡ u → y ≡ v → (IsTrue r ↔ Agree R x y) → (IsTrue r ↔ Agree R u v)
agree_along {X = X} R r x y u v p q h = subst (λ (o : Option X). IsTrue r ↔ Agree R u o) q (subst (λ (o : Option X). IsTrue r ↔ Agree R o y) p h)

-- a test and one of two others
pub both : (r s t u v : Bool) (P : Type 0) → s ≡ u → t ≡ v → (IsTrue r ↔ P) → (IsTrue (r && (s || t)) ↔ (P × (IsTrue u ⊎ IsTrue v)))
both r s t u v P p q h = subst (λ (a : Bool). IsTrue (r && (s || t)) ↔ (P × (IsTrue a ⊎ IsTrue v))) p (subst (λ (b : Bool). IsTrue (r && (s || t)) ↔ (P × (IsTrue s ⊎ IsTrue b))) q (forth, back))
  where
    forth : IsTrue (r && (s || t)) → P × (IsTrue s ⊎ IsTrue t)
    forth e = let parts = and_parts r (s || t) e in (h.0 parts.0, or_cases s t parts.1)

    back : P × (IsTrue s ⊎ IsTrue t) → IsTrue (r && (s || t))
    back (p, which) = and_from r (s || t) (h.1 p) (⊎_elim (λ e. or_left s t e) (λ e. or_right s t e) which)
