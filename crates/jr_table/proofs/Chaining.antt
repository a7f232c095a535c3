-- A class has one chain.
use Rattle.std.proofs.Common.{◌≡◌, ℕ, ◌<◌, List, [], ◌∷◌, length, Option, Some, None, refl, sym, ap, subst, ◌∙◌, arith}
use Rattle.jr_table.specs.declared.entries.Entry.{Entry}
use Rattle.jr_table.specs.Chains.{IsChain, GoesUp, parent_of, chain_of, IsAcyclic}

pub one_chain : (rows : List Entry) (c : ℕ) (cs ds : List ℕ) → IsChain rows c cs → IsChain rows c ds → cs ≡ ds
one_chain rows c [] ds h k = absurd h
one_chain rows c (a ∷ cs) [] h k = absurd k
one_chain rows c (a ∷ cs) (b ∷ ds) h k = let e : a ≡ b = sym h.0 ∙ k.0 in (λ i. e i ∷ rest (parent_of rows c) h.1 k.1 (λ p. one_chain rows p cs ds) i)
  where
    rest : (o : Option ℕ) → GoesUp o cs (λ p. IsChain rows p cs) → GoesUp o ds (λ p. IsChain rows p ds) → ((p : ℕ) → IsChain rows p cs → IsChain rows p ds → cs ≡ ds) → cs ≡ ds
    rest None h k more = h ∙ sym k
    rest (Some p) h k more = more p h k

module _ (rows : List Entry) (acyclic : IsAcyclic rows) where
  pub chain_step : (c p : ℕ) → parent_of rows c ≡ Some p → chain_of rows c ≡ c ∷ chain_of rows p
  chain_step c p up = one_chain rows c _ _ (acyclic c) (refl, G up)
    where
      G : parent_of rows c ≡ Some p → GoesUp (parent_of rows c) (chain_of rows p) (λ q. IsChain rows q (chain_of rows p))
      G up = let P : Option ℕ → Type 0 = λ o. GoesUp o (chain_of rows p) (λ q. IsChain rows q (chain_of rows p)) in subst P (sym up) (acyclic p)

  pub chain_top : (c : ℕ) → parent_of rows c ≡ None → chain_of rows c ≡ c ∷ []
  chain_top c up = one_chain rows c _ _ (acyclic c) (refl, let P : Option ℕ → Type 0 = λ o. GoesUp o [] (λ q. IsChain rows q []) in subst P (sym up) refl)

  pub shorter : (c p : ℕ) → parent_of rows c ≡ Some p → length (chain_of rows p) < length (chain_of rows c)
  shorter c p up = let e = ap length (chain_step c p up) in omega arith
