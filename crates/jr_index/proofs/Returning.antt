-- Ways upwards that come back.
use Rattle.std.proofs.Common.{◌≡◌, ◌≢◌, ℕ, zero, suc, ◌+◌, ◌-◌, ◌<◌, ◌≤◌, List, Option, Some, None, refl, sym, ap, subst, ◌∙◌, arith, inl, inr}
use Rattle.std.specs.Prelude.{◌⊎◌, option_and_then}
use Rattle.jr_index.specs.Parents.{up, next, Leads, Returns}
use Rattle.jr_index.proofs.Walking.{up-suc}

module _ (parents : List (Option ℕ)) where
  pub up-add : (m n : ℕ) (j : ℕ) → up (m + n) parents j ≡ option_and_then (up n parents) (up m parents j)
  unfolding up
  up-add zero n j = ap (λ k. up k parents j) (let e : 0 + n ≡ n = omega arith in e)
  up-add (suc m) n j = ap (λ k. up k parents j) (let e : suc m + n ≡ suc (m + n) = omega arith in e) ∙ onward (next parents j) (up-add m n)
    where
      onward : (o : Option ℕ) → ((p : ℕ) → up (m + n) parents p ≡ option_and_then (up n parents) (up m parents p))
          → option_and_then (up (m + n) parents) o ≡ option_and_then (up n parents) (option_and_then (up m parents) o)
      onward None h = refl
      onward (Some p) h = h p

  -- the way from k is the rest of a way that comes to k
  pub up-rest : (m n : ℕ) (j k : ℕ) → up m parents j ≡ Some k → up (m + n) parents j ≡ up n parents k
  up-rest m n j k e = up-add m n j ∙ ap (option_and_then (up n parents)) e

  -- where the way from j comes back, so does the way from what it leads to
  next_returns : (j p : ℕ) → Returns parents j → next parents j ≡ Some p → Returns parents p
  unfolding up
  next_returns j p (n, e) h =
      let back : up n parents p ≡ Some j = ap (option_and_then (up n parents)) (sym h) ∙ e in
      (n, up-suc n parents p ∙ ap (option_and_then (next parents)) back ∙ h)

  pub goes_on : (j : ℕ) → Returns parents j → (p : ℕ) × (next parents j ≡ Some p) × Leads parents p j
  unfolding up
  goes_on j (n, e) = first (next parents j) refl e
    where
      first : (o : Option ℕ) → next parents j ≡ o → option_and_then (up n parents) o ≡ Some j → (p : ℕ) × (next parents j ≡ Some p) × Leads parents p j
      first None is e = absurd cc
      first (Some p) is e = (p, is, (n, e))

  pub returns_along : (n : ℕ) (j k : ℕ) → Returns parents j → up n parents j ≡ Some k → Returns parents k
  unfolding up
  returns_along zero j k r e = let same : j ≡ k = cc in subst (Returns parents) same r
  returns_along (suc n) j k r e =
      let g = goes_on j r in
      returns_along n g.0 k (next_returns j g.0 r g.1) (ap (option_and_then (up n parents)) (sym g.1) ∙ e)

  pub up-one : (j p : ℕ) → next parents j ≡ Some p → up 1 parents j ≡ Some p
  unfolding up
  up-one j p e = ap (option_and_then Some) e

  leads_on : (i j k : ℕ) → Leads parents i j → Leads parents j k → Leads parents i k
  leads_on i j k (m, e) (n, h) = (m + n, up-rest m n i j e ∙ h)

  -- and it leads back
  pub leads_back : (n : ℕ) (j k : ℕ) → Returns parents j → up n parents j ≡ Some k → Leads parents k j
  unfolding up
  leads_back zero j k r e = let same : j ≡ k = cc in (0, ap Some (sym same))
  leads_back (suc n) j k r e =
      let g = goes_on j r in
      leads_on k g.0 j (leads_back n g.0 k (next_returns j g.0 r g.1) (ap (option_and_then (up n parents)) (sym g.1) ∙ e)) g.2

  pub never_ends : (n : ℕ) (j : ℕ) → Returns parents j → up n parents j ≢ None
  unfolding up
  never_ends zero j r = λ e. absurd cc
  never_ends (suc n) j r = λ e. let g = goes_on j r in never_ends n g.0 (next_returns j g.0 r g.1) (ap (option_and_then (up n parents)) (sym g.1) ∙ e)

  -- what is closed upwards holds all along the way
  pub along : (P : ℕ → Type 0) → ((j p : ℕ) → P j → next parents j ≡ Some p → P p) → (n j k : ℕ) → up n parents j ≡ Some k → P j → P k
  unfolding up
  along P closed zero j k e h = let same : j ≡ k = cc in subst P same h
  along P closed (suc n) j k e h = first (next parents j) refl e (along P closed n)
    where
      first : (o : Option ℕ) → next parents j ≡ o → option_and_then (up n parents) o ≡ Some k → ((j k : ℕ) → up n parents j ≡ Some k → P j → P k) → P k
      first None is e more = absurd cc
      first (Some p) is e more = more p k e (closed j p h is)

  -- a way that comes to one of its own first steps passes no others
  pub all_steps : (P : ℕ → Type 0) (j e steps back : ℕ) → up steps parents j ≡ Some e → up back parents j ≡ Some e → back < steps
      → ((s x : ℕ) → s < steps → up s parents j ≡ Some x → P x) → (fuel n x : ℕ) → n < fuel → up n parents j ≡ Some x → P x
  all_steps P j e steps back h k lt each zero n x less at = absurd (omega arith)
  all_steps P j e steps back h k lt each (suc fuel) n x less at = near (split n steps) (all_steps P j e steps back h k lt each fuel)
    where
      split : (n s : ℕ) → (n < s) ⊎ (s ≤ n)
      split n s = grind arith

      near : ((n < steps) ⊎ (steps ≤ n)) → ((n x : ℕ) → n < fuel → up n parents j ≡ Some x → P x) → P x
      near (inl before) more = each n x before at
      near (inr past) more =
          let there : steps + (n - steps) ≡ n = omega arith in
          let from_end : up (n - steps) parents e ≡ Some x = sym (up-rest steps (n - steps) j e h) ∙ ap (λ i. up i parents j) there ∙ at in
          more (back + (n - steps)) x (omega arith) (up-rest back (n - steps) j e k ∙ from_end)
