-- The highest class that declares what is looked for, on the way to it.
use Rattle.std.proofs.Common.{◌≡◌, ℕ, List, Option, Some, None, Bool, refl, sym, subst, ◌∙◌, inl, inr}
use Rattle.std.specs.Prelude.{◌⊎◌}
use Rattle.jr_table.specs.declared.entries.Entry.{Entry}
use Rattle.jr_table.specs.Chains.{IsAcyclic, parent_of, IsSubclassAt}
use Rattle.jr_table.specs.Looking.{own_row}
use Rattle.jr_table.proofs.StepsUp.{itself}
use Rattle.jr_dispatch.specs.Highest.{Owns, IsHighest, highest_of}
use Rattle.jr_dispatch.proofs.Upwards.{Steps, split, step, upwards}

-- from c the climb has come to class at, and top is the highest so far
pub record IsClimbed (rows : List Entry) (test : ℕ → Entry → Bool) (c at top : ℕ) : Type 0 where
  pub reached : IsSubclassAt rows c at
  pub below : IsSubclassAt rows c top
  pub declares : (top ≡ c) ⊎ Owns rows test top
  pub rest : (d : ℕ) → IsSubclassAt rows top d → Owns rows test d → (d ≡ top) ⊎ Steps rows at d

module _ (rows : List Entry) (test : ℕ → Entry → Bool) (acyclic : IsAcyclic rows) where
  here_or_above : (c d : ℕ) → IsSubclassAt rows c d → (d ≡ c) ⊎ Steps rows c d
  here_or_above c d s = of (split rows c d s)
    where
      of : ((c ≡ d) ⊎ Steps rows c d) → (d ≡ c) ⊎ Steps rows c d
      of (inl e) = inl (sym e)
      of (inr h) = inr h

  pub begins : (c : ℕ) → IsClimbed rows test c c c
  begins c = record {
    reached = itself rows acyclic c c refl;
    below = itself rows acyclic c c refl;
    declares = inl refl;
    rest = λ d s o. here_or_above c d s;
  }

  pub goes_on : (c at top p : ℕ) → IsClimbed rows test c at top → parent_of rows at ≡ Some p → IsClimbed rows test c p (highest_of (own_row rows test p) p top)
  goes_on c at top p h up = by (own_row rows test p) refl
    where
      reached : IsSubclassAt rows c p
      reached = upwards rows c at p h.reached (step rows at p p up (itself rows acyclic p p refl))

      by : (o : Option ℕ) → own_row rows test p ≡ o → IsClimbed rows test c p (highest_of o p top)
      by (Some j) e = record { reached = reached; below = reached; declares = inr (j, e); rest = λ d s o. here_or_above p d s }
      by None e = record { reached = reached; below = h.below; declares = h.declares; rest = λ d s o. of d o (h.rest d s o) }
        where
          on : (d : ℕ) → Owns rows test d → ((p ≡ d) ⊎ Steps rows p d) → (d ≡ top) ⊎ Steps rows p d
          on d o (inl q) = let t : None ≡ Some o.0 = sym (subst (λ (n : ℕ). own_row rows test n ≡ None) q e) ∙ o.1 in absurd cc
          on d o (inr s) = inr s

          of : (d : ℕ) → Owns rows test d → ((d ≡ top) ⊎ Steps rows at d) → (d ≡ top) ⊎ Steps rows p d
          of d o (inl q) = inl q
          of d o (inr (q, is, s)) = let same : q ≡ p = (let z : Some q ≡ Some p = sym is ∙ up in cc) in on d o (split rows p d (subst (λ (n : ℕ). IsSubclassAt rows n d) same s))

  pub ends : (c at top : ℕ) → IsClimbed rows test c at top → parent_of rows at ≡ None → IsHighest rows test c top
  ends c at top h none = record { below = h.below; declares = h.declares; none_above = λ d s o. of d (h.rest d s o) }
    where
      of : (d : ℕ) → ((d ≡ top) ⊎ Steps rows at d) → d ≡ top
      of d (inl e) = e
      of d (inr (p, is, s)) = let z : None ≡ Some p = sym none ∙ is in absurd cc
