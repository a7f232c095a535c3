-- What is known of the first items of a list by their keys, one item after another.
use Rattle.std.proofs.Common.{◌≡◌, ℕ, ◌+◌, ◌<◌, ◌≤◌, List, Option, Some, None, Bool, true, false, cond, length, refl, sym, ap, subst, ◌∙◌, inl, inr, arith}
use Rattle.std.specs.Prelude.{slice_get, ◌⊎◌, Decides}
use Rattle.std.specs.Option.{MatchOption}
use Rattle.jr_build_declared.proofs.Earliest.{inside}

module _ {X K R : Type 0} (view : R → K) (same : K → K → Bool) (decides : (j k : K) → Decides (same j k) (j ≡ k)) (key_of : X → Option K) (xs : List X) where
  -- one of the first n items has the key
  abbrev pub Has : ℕ → R → Type 0
  Has n r = (i : ℕ) × (x : X) × (i < n) × (slice_get xs i ≡ Some x) × (key_of x ≡ Some (view r))

  -- something is under the key exactly where one of the first n has it
  abbrev pub Knows : ℕ → R → Option ℕ → Type 0
  Knows n r o = MatchOption o (Has n r → ⊥) (λ w. Has n r)

  split : (m n : ℕ) → m < n + 1 → (m < n) ⊎ (m ≡ n)
  split m n h = grind arith

  pub none_known : (t : R → Option ℕ) → ((r : R) → t r ≡ None) → (r : R) → Knows 0 r (t r)
  none_known t none r = subst (Knows 0 r) (sym (none r)) (λ (i, x, lt, at, is). omega (arith, lt))

  nothing : (k : K) → None ≡ Some k → ⊥
  nothing k e = cc

  kept : (n : ℕ) (x : X) (r : R) (o : Option ℕ) → slice_get xs n ≡ Some x → (key_of x ≡ Some (view r) → ⊥) → Knows n r o → Knows (n + 1) r o
  kept n x r (Some w) here other (i, y, lt, at, is) = (i, y, omega (arith, lt), at, is)
  kept n x r None here other none = λ (i, y, lt, at, is). by i y at is (split i n lt)
    where
      by : (i : ℕ) (y : X) → slice_get xs i ≡ Some y → key_of y ≡ Some (view r) → ((i < n) ⊎ (i ≡ n)) → ⊥
      by i y at is (inl lt) = none (i, y, lt, at, is)
      by i y at is (inr e) = other (ap key_of (inside x y (sym here ∙ ap (slice_get xs) (sym e) ∙ at)) ∙ is)

  with_key : (n w : ℕ) (x : X) (own r : R) (old new : Option ℕ) (b : Bool) → same (view own) (view r) ≡ b → new ≡ cond b (Some w) old
      → slice_get xs n ≡ Some x → key_of x ≡ Some (view own) → Knows n r old → Knows (n + 1) r new
  with_key n w x own r old new true e is here has h = subst (Knows (n + 1) r) (sym is) (n, x, omega arith, here, has ∙ ap Some ((decides (view own) (view r)).0 e))
  with_key n w x own r old new false e is here has h = subst (Knows (n + 1) r) (sym is) (kept n x r old here other h)
    where
      other : key_of x ≡ Some (view r) → ⊥
      other key = let t = (decides (view own) (view r)).1 (inside (view own) (view r) (sym has ∙ key)) in absurd cc

  -- one item more
  pub nothing_known : (n : ℕ) (x : X) (old new : R → Option ℕ) → slice_get xs n ≡ Some x → key_of x ≡ None
      → ((r : R) → new r ≡ old r) → ((r : R) → Knows n r (old r)) → (r : R) → Knows (n + 1) r (new r)
  nothing_known n x old new here is puts h r = subst (Knows (n + 1) r) (sym (puts r)) (kept n x r (old r) here (λ e. nothing (view r) (sym is ∙ e)) (h r))

  pub one_known : (n w : ℕ) (x : X) (own : R) (old new : R → Option ℕ) → slice_get xs n ≡ Some x → key_of x ≡ Some (view own)
      → ((r : R) → new r ≡ cond (same (view own) (view r)) (Some w) (old r)) → ((r : R) → Knows n r (old r)) → (r : R) → Knows (n + 1) r (new r)
  one_known n w x own old new here is puts h r = with_key n w x own r (old r) (new r) (same (view own) (view r)) refl (puts r) here is (h r)
