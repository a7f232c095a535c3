-- Classes and their superclasses.
use Rattle.std.proofs.Common.{◌≡◌, ℕ, List, [], ◌∷◌, Option, Some, None, refl, sym, subst, ◌∙◌, inl, inr}
use Rattle.std.specs.Prelude.{◌⊎◌}
use Rattle.jr_table.specs.declared.entries.Entry.{Entry}
use Rattle.jr_table.specs.Chains.{IsChain, GoesUp, parent_of, In, IsSubclassAt}
use Rattle.jr_table.proofs.Chaining.{one_chain}

none_in : (ys : List ℕ) (d : ℕ) → ys ≡ [] → In ys d → ⊥
none_in [] d e i = absurd i
none_in (y ∷ ys) d e i = absurd cc

module _ (rows : List Entry) where
  -- the superclass of c is d, or below it
  abbrev pub Steps : ℕ → ℕ → Type 0
  Steps c d = (p : ℕ) × (parent_of rows c ≡ Some p) × IsSubclassAt rows p d

  pub split : (c d : ℕ) → IsSubclassAt rows c d → (c ≡ d) ⊎ Steps c d
  split c d s = of s.chain s.goes_up s.among
    where
      up : (xs : List ℕ) (o : Option ℕ) → parent_of rows c ≡ o → GoesUp o xs (λ p. IsChain rows p xs) → In xs d → Steps c d
      up xs None e h i = absurd (none_in xs d h i)
      up xs (Some p) e h i = (p, e, record { chain = xs; goes_up = h; among = i })

      of : (cs : List ℕ) → IsChain rows c cs → In cs d → (c ≡ d) ⊎ Steps c d
      of [] k i = absurd k
      of (x ∷ xs) k (inl e) = inl (k.0 ∙ e)
      of (x ∷ xs) k (inr i) = inr (up xs (parent_of rows c) refl k.1 i)

  pub step : (c p d : ℕ) → parent_of rows c ≡ Some p → IsSubclassAt rows p d → IsSubclassAt rows c d
  step c p d up s = record {
    chain = c ∷ s.chain;
    goes_up = (refl, subst (λ (o : Option ℕ). GoesUp o s.chain (λ q. IsChain rows q s.chain)) (sym up) s.goes_up);
    among = inr s.among;
  }

  goes_on : (cs : List ℕ) (c d e : ℕ) → IsChain rows c cs → In cs d → IsSubclassAt rows d e → IsSubclassAt rows c e
  goes_on [] c d e k i s = absurd k
  goes_on (x ∷ xs) c d e k (inl q) s = subst (λ (n : ℕ). IsSubclassAt rows n e) (sym (k.0 ∙ q)) s
  goes_on (x ∷ xs) c d e k (inr i) s = up (parent_of rows c) refl k.1 (λ p h. goes_on xs p d e h i s)
    where
      up : (o : Option ℕ) → parent_of rows c ≡ o → GoesUp o xs (λ p. IsChain rows p xs) → ((p : ℕ) → IsChain rows p xs → IsSubclassAt rows p e) → IsSubclassAt rows c e
      up None q h more = absurd (none_in xs d h i)
      up (Some p) q h more = step c p e q (more p h)

  pub upwards : (c d e : ℕ) → IsSubclassAt rows c d → IsSubclassAt rows d e → IsSubclassAt rows c e
  upwards c d e s t = goes_on s.chain c d e s.goes_up s.among t

  either : (cs : List ℕ) (c d e : ℕ) → IsChain rows c cs → In cs d → In cs e → IsSubclassAt rows d e ⊎ IsSubclassAt rows e d
  either [] c d e k i j = absurd k
  either (x ∷ xs) c d e k (inl q) j = inl (record { chain = x ∷ xs; goes_up = subst (λ (n : ℕ). IsChain rows n (x ∷ xs)) (k.0 ∙ q) k; among = j })
  either (x ∷ xs) c d e k (inr i) (inl q) = inr (record { chain = x ∷ xs; goes_up = subst (λ (n : ℕ). IsChain rows n (x ∷ xs)) (k.0 ∙ q) k; among = inr i })
  either (x ∷ xs) c d e k (inr i) (inr j) = up (parent_of rows c) k.1 (λ p h. either xs p d e h i j)
    where
      up : (o : Option ℕ) → GoesUp o xs (λ p. IsChain rows p xs) → ((p : ℕ) → IsChain rows p xs → IsSubclassAt rows d e ⊎ IsSubclassAt rows e d) → IsSubclassAt rows d e ⊎ IsSubclassAt rows e d
      up None h more = absurd (none_in xs d h i)
      up (Some p) h more = more p h

  -- of two superclasses of a class one is above the other
  pub comparable : (c d e : ℕ) → IsSubclassAt rows c d → IsSubclassAt rows c e → IsSubclassAt rows d e ⊎ IsSubclassAt rows e d
  comparable c d e s t =
      either s.chain c d e s.goes_up s.among (subst (λ (cs : List ℕ). In cs e) (one_chain rows c t.chain s.chain t.goes_up s.goes_up) t.among)
