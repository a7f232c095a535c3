-- One step upwards.
use Rattle.std.proofs.Common.{◌≡◌, ◌≢◌, ℕ, List, [], ◌∷◌, Option, Some, None, Bool, refl, sym, ap, subst, ◌∙◌, inl, inr}
use Rattle.std.specs.Prelude.{◌↔◌, ◌⊎◌}
use Rattle.jr_table.specs.declared.entries.Entry.{Entry}
use Rattle.jr_table.specs.Chains.{IsChain, IsAcyclic, parent_of, chain_of, In, IsSubclassAt}
use Rattle.jr_table.specs.Looking.{first_of, inherited, own_row, nearest_among, member_among, nearest, member}
use Rattle.jr_table.proofs.Chaining.{one_chain, chain_step, chain_top}

module _ (rows : List Entry) (acyclic : IsAcyclic rows) where
  among_is : (c d : ℕ) → In (chain_of rows c) d ↔ IsSubclassAt rows c d
  among_is c d = (
    λ i. record { chain = chain_of rows c; goes_up = acyclic c; among = i },
    λ s. subst (λ (cs : List ℕ). In cs d) (one_chain rows c s.chain (chain_of rows c) s.goes_up (acyclic c)) s.among,
  )

  -- a class is its own subclass
  pub itself : (c d : ℕ) → c ≡ d → IsSubclassAt rows c d
  itself c d e = (among_is c d).0 (by (chain_of rows c) (acyclic c))
    where
      by : (cs : List ℕ) → IsChain rows c cs → In cs d
      by [] k = absurd k
      by (x ∷ xs) k = inl (sym k.0 ∙ e)

  pub further : (c p d : ℕ) → parent_of rows c ≡ Some p → c ≢ d → IsSubclassAt rows c d ↔ IsSubclassAt rows p d
  further c p d up differs = (λ s. (among_is p d).0 (down (subst (λ (cs : List ℕ). In cs d) (chain_step rows acyclic c p up) ((among_is c d).1 s))), λ s. (among_is c d).0 (subst (λ (cs : List ℕ). In cs d) (sym (chain_step rows acyclic c p up)) (inr ((among_is p d).1 s))))
    where
      down : In (c ∷ chain_of rows p) d → In (chain_of rows p) d
      down (inl e) = absurd (differs e)
      down (inr i) = i

  pub at_top : (c d : ℕ) → parent_of rows c ≡ None → c ≢ d → IsSubclassAt rows c d → ⊥
  at_top c d up differs s = no (subst (λ (cs : List ℕ). In cs d) (chain_top rows acyclic c up) ((among_is c d).1 s))
    where
      no : In (c ∷ []) d → ⊥
      no (inl e) = differs e
      no (inr i) = i

  module _ (test : ℕ → Entry → Bool) where
    pub own_nearest : (c j : ℕ) → own_row rows test c ≡ Some j → nearest rows test c ≡ Some j
    unfolding nearest
    own_nearest c j h = of (chain_of rows c) (acyclic c)
      where
        of : (cs : List ℕ) → IsChain rows c cs → nearest_among rows test cs ≡ Some j
        of [] k = absurd k
        of (d ∷ ds) k = ap (λ o. first_of o (nearest_among rows test ds)) (ap (own_row rows test) (sym k.0) ∙ h)

    pub next_nearest : (c p : ℕ) → own_row rows test c ≡ None → parent_of rows c ≡ Some p → nearest rows test c ≡ nearest rows test p
    unfolding nearest
    next_nearest c p h up = ap (nearest_among rows test) (chain_step rows acyclic c p up) ∙ ap (λ o. first_of o (nearest_among rows test (chain_of rows p))) h

    pub no_nearest : (c : ℕ) → own_row rows test c ≡ None → parent_of rows c ≡ None → nearest rows test c ≡ None
    unfolding nearest
    no_nearest c h up = ap (nearest_among rows test) (chain_top rows acyclic c up) ∙ ap (λ o. first_of o None) h

    pub own_member : (c j : ℕ) → own_row rows test c ≡ Some j → member rows test c ≡ Some j
    unfolding member
    own_member c j h = of (chain_of rows c) (acyclic c)
      where
        of : (cs : List ℕ) → IsChain rows c cs → member_among rows test cs ≡ Some j
        of [] k = absurd k
        of (d ∷ ds) k = ap (λ o. first_of o (inherited rows (nearest_among rows test ds))) (ap (own_row rows test) (sym k.0) ∙ h)

    pub next_member : (c p : ℕ) → own_row rows test c ≡ None → parent_of rows c ≡ Some p → member rows test c ≡ inherited rows (nearest rows test p)
    unfolding member nearest
    next_member c p h up = ap (member_among rows test) (chain_step rows acyclic c p up) ∙ ap (λ o. first_of o (inherited rows (nearest_among rows test (chain_of rows p)))) h

    pub no_member : (c : ℕ) → own_row rows test c ≡ None → parent_of rows c ≡ None → member rows test c ≡ None
    unfolding member
    no_member c h up = ap (member_among rows test) (chain_top rows acyclic c up) ∙ ap (λ o. first_of o None) h
