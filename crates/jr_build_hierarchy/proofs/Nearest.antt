-- The nearest member class upwards is found in as many turns as there are classes, or never.
use Rattle.std.proofs.Common.{◌≡◌, ℕ, zero, suc, ◌+◌, ◌-◌, ◌<◌, ◌≤◌, List, [], ◌∷◌, length, Option, Some, None, refl, sym, ap, subst, ◌∙◌, inl, inr, arith}
use Rattle.std.specs.Prelude.{slice_get, option_and_then, ◌⊎◌}
use Rattle.jr_index.specs.Parents.{next, up, AreWithin, ComesEarly}
use Rattle.jr_build_hierarchy.specs.Hierarchies.{Hierarchy, own_at, parent_at, first_of, nearest}

-- after so many steps upwards a class declares number m, and none before it does
pub record Comes (h : Hierarchy) (name : List ℕ) (j m s : ℕ) : Type 0 where
  pub at : ℕ
  pub reached : up s h.parents j ≡ Some at
  pub declares : own_at h name at ≡ Some m
  pub none_before : (i x : ℕ) → i < s → up i h.parents j ≡ Some x → own_at h name x ≡ None

module _ (h : Hierarchy) (name : List ℕ) where
  pub comes : (t j m : ℕ) → nearest t h name j ≡ Some m → (s : ℕ) × (s < t) × Comes h name j m s
  unfolding nearest up
  comes zero j m e = absurd cc
  comes (suc t) j m e = by (own_at h name j) refl (parent_at h j) refl e (comes t)
    where
      by : (o : Option ℕ) → own_at h name j ≡ o → (p : Option ℕ) → parent_at h j ≡ p
          → first_of o (option_and_then (λ q. nearest t h name q) p) ≡ Some m
          → ((j m : ℕ) → nearest t h name j ≡ Some m → (s : ℕ) × (s < t) × Comes h name j m s)
          → (s : ℕ) × (s < suc t) × Comes h name j m s
      by (Some x) a p b e more =
          (0, omega arith, record { at = j; reached = refl; declares = a ∙ e; none_before = λ i y lt u. absurd (omega (arith, lt)) })
      by None a None b e more = absurd cc
      by None a (Some p) b e more =
          let c = more p m e in (
            suc c.0,
            (let l = c.1 in omega (arith, l)),
            record {
              at = c.2.at;
              reached = ap (option_and_then (up c.0 h.parents)) b ∙ c.2.reached;
              declares = c.2.declares;
              none_before = before c.0 c.2;
            },
          )
        where
          before : (s : ℕ) → Comes h name p m s → (i x : ℕ) → i < suc s → up i h.parents j ≡ Some x → own_at h name x ≡ None
          before s c zero x lt u = let same : j ≡ x = cc in ap (own_at h name) (sym same) ∙ a
          before s c (suc i) x lt u = c.none_before i x (omega (arith, lt)) (sym (ap (option_and_then (up i h.parents)) b) ∙ u)

  pub reaches : (t s j m : ℕ) → s < t → Comes h name j m s → nearest t h name j ≡ Some m
  unfolding nearest up
  reaches zero s j m lt c = absurd (omega (arith, lt))
  reaches (suc t) zero j m lt c =
      let same : j ≡ c.at = (let r : Some j ≡ Some c.at = c.reached in cc) in
      let o : own_at h name j ≡ Some m = ap (own_at h name) same ∙ c.declares in
      ap (λ x. first_of x (option_and_then (λ q. nearest t h name q) (parent_at h j))) o
  reaches (suc t) (suc s) j m lt c = by (parent_at h j) refl c.reached (reaches t s)
    where
      none : own_at h name j ≡ None
      none = c.none_before 0 j (omega (arith, lt)) refl

      by : (p : Option ℕ) → parent_at h j ≡ p → option_and_then (up s h.parents) p ≡ Some c.at
          → ((j m : ℕ) → s < t → Comes h name j m s → nearest t h name j ≡ Some m)
          → first_of (own_at h name j) (option_and_then (λ q. nearest t h name q) (parent_at h j)) ≡ Some m
      by None b e more = absurd cc
      by (Some p) b e more =
          let rest : Comes h name p m s = record {
            at = c.at;
            reached = e;
            declares = c.declares;
            none_before = λ i x l u. c.none_before (suc i) x (omega (arith, l)) (ap (option_and_then (up i h.parents)) b ∙ u);
          } in
          (λ i. first_of (none i) (option_and_then (λ q. nearest t h name q) (b i))) ∙ more p m (omega (arith, lt)) rest

  -- so many turns are enough
  pub enough : (n : ℕ) → ComesEarly h.parents n → (t j m : ℕ) → j < n → nearest t h name j ≡ Some m → nearest n h name j ≡ Some m
  enough n early t j m lt e = by (comes t j m e)
    where
      order : (a b : ℕ) → (a < b) ⊎ (b ≤ a)
      order a b = grind arith

      by : ((s : ℕ) × (s < t) × Comes h name j m s) → nearest n h name j ≡ Some m
      by (s, l, c) = found (order s n)
        where
          found : ((s < n) ⊎ (n ≤ s)) → nearest n h name j ≡ Some m
          found (inl less) = reaches n s j m less c
          found (inr many) =
              let short = early s j c.at lt c.reached in
              let none = c.none_before short.0 c.at (let l = short.1 in omega (arith, l, many)) short.2 in
              let some = c.declares in
              absurd cc

  -- turn by turn
  more_turns : (n t : ℕ) → t < n → n - t ≡ suc (n - (t + 1))
  more_turns n t lt = omega (arith, lt)

  pub own_first : (n t j m : ℕ) → t < n → own_at h name j ≡ Some m → nearest (n - t) h name j ≡ Some m
  unfolding nearest
  own_first n t j m lt e = ap (λ k. nearest k h name j) (more_turns n t lt) ∙ ap (λ o. first_of o (option_and_then (λ p. nearest (n - (t + 1)) h name p) (parent_at h j))) e

  pub goes_up : (n t j p : ℕ) → t < n → own_at h name j ≡ None → parent_at h j ≡ Some p → nearest (n - t) h name j ≡ nearest (n - (t + 1)) h name p
  unfolding nearest
  goes_up n t j p lt e f = ap (λ k. nearest k h name j) (more_turns n t lt) ∙ (λ i. first_of (e i) (option_and_then (λ q. nearest (n - (t + 1)) h name q) (f i)))

  pub at_top : (n t j : ℕ) → t < n → own_at h name j ≡ None → parent_at h j ≡ None → nearest (n - t) h name j ≡ None
  unfolding nearest
  at_top n t j lt e f = ap (λ k. nearest k h name j) (more_turns n t lt) ∙ (λ i. first_of (e i) (option_and_then (λ q. nearest (n - (t + 1)) h name q) (f i)))

  pub no_turn : (n t j : ℕ) → n ≤ t → nearest (n - t) h name j ≡ None
  unfolding nearest
  no_turn n t j le = let e : n - t ≡ 0 = omega (arith, le) in ap (λ k. nearest k h name j) e

  pub first_turn : (n j : ℕ) → nearest (n - 0) h name j ≡ nearest n h name j
  first_turn n j = let e : n - 0 ≡ n = omega arith in ap (λ k. nearest k h name j) e
