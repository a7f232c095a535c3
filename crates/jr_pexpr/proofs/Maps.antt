-- Two machines that step alike come equally far.
use Rattle.std.proofs.Common.{◌≡◌, ℕ, suc, List, [], ◌∷◌, Option, Some, None, refl, ap, ◌∙◌}
use Rattle.std.specs.Prelude.{option_and_then, option_map, map}
use Rattle.jr_pexpr.specs.Runs.{run, best, longest, one_more, stop_of}

module _ (S I T S' I' T' : Type 0) (step : S → I → Option S) (whole : S → Option T) (step' : S' → I' → Option S') (whole' : S' → Option T') (f : S → S') (g : I → I') (h : T → T')
    (steps : (s : S) (i : I) → option_map f (step s i) ≡ step' (f s) (g i)) (wholes : (s : S) → option_map h (whole s) ≡ whole' (f s)) where
  pub run_map : (s : S) (is : List I) → option_map f (run S I T step whole s is) ≡ run S' I' T' step' whole' (f s) (map g is)
  run_map s [] = refl
  run_map s (i ∷ is) = go (λ n. run_map n is) (step s i) ∙ ap (option_and_then (λ (n : S'). run S' I' T' step' whole' n (map g is))) (steps s i)
    where
      go : ((n : S) → option_map f (run S I T step whole n is) ≡ run S' I' T' step' whole' (f n) (map g is)) → (o : Option S)
          → option_map f (option_and_then (λ (n : S). run S I T step whole n is) o) ≡ option_and_then (λ (n : S'). run S' I' T' step' whole' n (map g is)) (option_map f o)
      go k None = refl
      go k (Some n) = k n

  pub stop_map : (s : S) (is : List I) → stop_of S I T step whole s is ≡ stop_of S' I' T' step' whole' (f s) (map g is)
  stop_map s [] = refl
  stop_map s (i ∷ is) = go (λ n. stop_map n is) (step s i) ∙ ap (λ (o : Option S'). one_more (option_map (λ (n : S'). stop_of S' I' T' step' whole' n (map g is)) o)) (steps s i)
    where
      go : ((n : S) → stop_of S I T step whole n is ≡ stop_of S' I' T' step' whole' (f n) (map g is)) → (o : Option S)
          → one_more (option_map (λ (n : S). stop_of S I T step whole n is) o) ≡ one_more (option_map (λ (n : S'). stop_of S' I' T' step' whole' n (map g is)) (option_map f o))
      go k None = refl
      go k (Some n) = ap suc (k n)

  best_map : (o : Option T) (r : Option ℕ) → best o r ≡ best (option_map h o) r
  best_map None None = refl
  best_map (Some x) None = refl
  best_map None (Some n) = refl
  best_map (Some x) (Some n) = refl

  best_whole : (s : S) (r r' : Option ℕ) → r ≡ r' → best (whole s) r ≡ best (whole' (f s)) r'
  best_whole s r r' e = best_map (whole s) r ∙ ap (λ (o : Option T'). best o r) (wholes s) ∙ ap (best (whole' (f s))) e

  pub longest_map : (s : S) (is : List I) → longest S I T step whole s is ≡ longest S' I' T' step' whole' (f s) (map g is)
  longest_map s [] = best_whole s None None refl
  longest_map s (i ∷ is) =
      best_whole s _ _ (go (λ n. longest_map n is) (step s i) ∙ ap (option_and_then (λ (n : S'). longest S' I' T' step' whole' n (map g is))) (steps s i))
    where
      go : ((n : S) → longest S I T step whole n is ≡ longest S' I' T' step' whole' (f n) (map g is)) → (o : Option S)
          → option_and_then (λ (n : S). longest S I T step whole n is) o ≡ option_and_then (λ (n : S'). longest S' I' T' step' whole' n (map g is)) (option_map f o)
      go k None = refl
      go k (Some n) = k n
