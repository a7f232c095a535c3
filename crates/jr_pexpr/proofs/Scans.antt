-- How far a machine comes.
use Rattle.std.proofs.Common.{◌≡◌, ℕ, suc, ◌<◌, ◌≤◌, List, [], ◌∷◌, ◌++◌, length, take, Option, Some, None, refl, ap, ◌∙◌, arith}
use Rattle.std.specs.Prelude.{option_and_then, option_map, IfSome}
use Rattle.jr_pexpr.specs.Runs.{run, best, longest, one_more, stop_of}

-- it is no less than that
abbrev pub AtLeast : Option ℕ → ℕ → Type 0
AtLeast None k = ⊥
AtLeast (Some n) k = k ≤ n

best_here : {T : Type 0} (o : Option T) (d : T) (r : Option ℕ) → o ≡ Some d → AtLeast (best o r) 0
best_here None d r e = absurd cc
best_here (Some x) d None e = omega arith
best_here (Some x) d (Some n) e = omega arith

best_more : {T : Type 0} (o : Option T) (r : Option ℕ) (k : ℕ) → AtLeast r k → AtLeast (best o r) (suc k)
best_more o None k h = absurd h
best_more None (Some n) k h = omega arith
best_more (Some x) (Some n) k h = omega arith

module _ (S I T : Type 0) (step : S → I → Option S) (whole : S → Option T) where
  pub run-append : (s : S) (u x : List I) → run S I T step whole s (u ++ x) ≡ option_and_then (λ (n : S). run S I T step whole n x) (run S I T step whole s u)
  run-append s [] x = refl
  run-append s (t ∷ u) x = go (λ n. run-append n u x) (step s t)
    where
      go : ((n : S) → run S I T step whole n (u ++ x) ≡ option_and_then (λ (m : S). run S I T step whole m x) (run S I T step whole n u)) → (o : Option S)
          → option_and_then (λ (n : S). run S I T step whole n (u ++ x)) o ≡ option_and_then (λ (n : S). run S I T step whole n x) (option_and_then (λ (n : S). run S I T step whole n u) o)
      go f None = refl
      go f (Some n) = f n

  -- ---- the stop

  -- what stands before the stop can be read
  pub stop_reached : (s : S) (ts : List I) → (n : S) × (run S I T step whole s (take (stop_of S I T step whole s ts) ts) ≡ Some n)
  stop_reached s [] = (s, refl)
  stop_reached s (t ∷ ts) = go (λ m. stop_reached m ts) (step s t) refl
    where
      go : ((m : S) → (n : S) × (run S I T step whole m (take (stop_of S I T step whole m ts) ts) ≡ Some n)) → (o : Option S) → step s t ≡ o
          → (n : S) × (run S I T step whole s (take (one_more (option_map (λ (next : S). stop_of S I T step whole next ts) o)) (t ∷ ts)) ≡ Some n)
      go f None e = (s, refl)
      go f (Some m) e = let h = f m in (h.0, ap (option_and_then (λ (n : S). run S I T step whole n (take (stop_of S I T step whole m ts) ts))) e ∙ h.1)

  pub stop_within : (s : S) (ts : List I) → stop_of S I T step whole s ts ≤ length ts
  stop_within s [] = omega arith
  stop_within s (t ∷ ts) = go (λ m. stop_within m ts) (step s t)
    where
      go : ((m : S) → stop_of S I T step whole m ts ≤ length ts) → (o : Option S) → one_more (option_map (λ (next : S). stop_of S I T step whole next ts) o) ≤ length (t ∷ ts)
      go f None = omega arith
      go f (Some m) = omega (arith, f m)

  -- with one more it can't
  pub stop_fails : (s : S) (ts x : List I) → stop_of S I T step whole s ts < length ts → run S I T step whole s (take (suc (stop_of S I T step whole s ts)) ts ++ x) ≡ None
  stop_fails s [] x h = absurd (omega arith)
  stop_fails s (t ∷ ts) x h = go (λ m k. stop_fails m ts x k) (step s t) refl h
    where
      go : ((m : S) → stop_of S I T step whole m ts < length ts → run S I T step whole m (take (suc (stop_of S I T step whole m ts)) ts ++ x) ≡ None) → (o : Option S) → step s t ≡ o
          → one_more (option_map (λ (next : S). stop_of S I T step whole next ts) o) < length (t ∷ ts)
          → run S I T step whole s (take (suc (one_more (option_map (λ (next : S). stop_of S I T step whole next ts) o))) (t ∷ ts) ++ x) ≡ None
      go f None e k = ap (option_and_then (λ (n : S). run S I T step whole n x)) e
      go f (Some m) e k = ap (option_and_then (λ (n : S). run S I T step whole n (take (suc (stop_of S I T step whole m ts)) ts ++ x))) e ∙ f m (omega arith)

  -- ---- the longest

  -- what is read as a whole, at n
  pub record Found (s : S) (ts : List I) (n : ℕ) : Type 0 where
    pub within : n ≤ length ts
    pub state : S
    pub tree : T
    pub run_to : run S I T step whole s (take n ts) ≡ Some state
    pub is_whole : whole state ≡ Some tree

  found_more : (s : S) (t : I) (ts : List I) (m : S) (n : ℕ) → step s t ≡ Some m → Found m ts n → Found s (t ∷ ts) (suc n)
  found_more s t ts m n e f =
      record { within = omega (arith, f.within); state = f.state; tree = f.tree; run_to = ap (option_and_then (λ (k : S). run S I T step whole k (take n ts))) e ∙ f.run_to; is_whole = f.is_whole }

  found_here : (s : S) (ts : List I) (o : Option T) → whole s ≡ o → IfSome (best o None) (Found s ts)
  found_here s ts None e = tt
  found_here s ts (Some d) e = record { within = omega arith; state = s; tree = d; run_to = refl; is_whole = e }

  found_best : (s : S) (ts : List I) (o : Option T) (r : Option ℕ) → whole s ≡ o → IfSome (option_map suc r) (Found s ts) → IfSome (best o r) (Found s ts)
  found_best s ts o None e h = found_here s ts o e
  found_best s ts None (Some n) e h = h
  found_best s ts (Some d) (Some n) e h = h

  pub longest_found : (s : S) (ts : List I) → IfSome (longest S I T step whole s ts) (Found s ts)
  longest_found s [] = found_here s [] (whole s) refl
  longest_found s (t ∷ ts) = found_best s (t ∷ ts) (whole s) _ refl (go (λ m. longest_found m ts) (step s t) refl)
    where
      then : (m : S) → step s t ≡ Some m → (r : Option ℕ) → IfSome r (Found m ts) → IfSome (option_map suc r) (Found s (t ∷ ts))
      then m e None h = tt
      then m e (Some n) h = found_more s t ts m n e h

      go : ((m : S) → IfSome (longest S I T step whole m ts) (Found m ts)) → (o : Option S) → step s t ≡ o → IfSome (option_map suc (option_and_then (λ (next : S). longest S I T step whole next ts) o)) (Found s (t ∷ ts))
      go f None e = tt
      go f (Some m) e = then m e (longest S I T step whole m ts) (f m)

  -- a whole one is no longer than that
  longest_here : (s : S) (ts : List I) (d : T) → whole s ≡ Some d → AtLeast (longest S I T step whole s ts) 0
  longest_here s [] d e = best_here (whole s) d None e
  longest_here s (t ∷ ts) d e = best_here (whole s) d _ e

  pub longest_most : (s : S) (u x : List I) (m : S) (d : T) → run S I T step whole s u ≡ Some m → whole m ≡ Some d → AtLeast (longest S I T step whole s (u ++ x)) (length u)
  longest_most s [] x m d e w = longest_here s x d (ap (λ (o : Option S). option_and_then whole o) e ∙ w)
  longest_most s (t ∷ u) x m d e w = best_more (whole s) _ (length u) (go (λ n k. longest_most n u x m d k w) (step s t) e)
    where
      go : ((n : S) → run S I T step whole n u ≡ Some m → AtLeast (longest S I T step whole n (u ++ x)) (length u)) → (o : Option S) → option_and_then (λ (n : S). run S I T step whole n u) o ≡ Some m
          → AtLeast (option_and_then (λ (next : S). longest S I T step whole next (u ++ x)) o) (length u)
      go f None k = absurd cc
      go f (Some n) k = f n k
