-- Two lists of which elements at one place are related.
use Rattle.std.proofs.Common.{◌≡◌, ℕ, zero, suc, ◌<◌, List, [], ◌∷◌, length, get_or, refl, ap, arith}
use Rattle.std.specs.List.{AllZip}

module _ {X Y : Type 0} (R : X → Y → Type 0) where
  pub all_zip : (xs : List X) (ys : List Y) → length xs ≡ length ys → ((i : ℕ) (x : X) (y : Y) → i < length xs → R (get_or xs i x) (get_or ys i y)) → AllZip R xs ys
  all_zip [] [] e f = tt
  all_zip [] (y ∷ ys) e f = absurd (omega (arith, e))
  all_zip (x ∷ xs) [] e f = absurd (omega (arith, e))
  all_zip (x ∷ xs) (y ∷ ys) e f = (f 0 x y (omega arith), all_zip xs ys (omega (arith, e)) (λ i u v lt. f (suc i) u v (omega (arith, lt))))

  pub zip_at : (xs : List X) (ys : List Y) → AllZip R xs ys → (i : ℕ) (x : X) (y : Y) → i < length ys → R (get_or xs i x) (get_or ys i y)
  zip_at [] [] h i x y lt = absurd (omega (arith, lt))
  zip_at [] (v ∷ ys) h i x y lt = absurd h
  zip_at (u ∷ xs) [] h i x y lt = absurd h
  zip_at (u ∷ xs) (v ∷ ys) h zero x y lt = h.0
  zip_at (u ∷ xs) (v ∷ ys) h (suc i) x y lt = zip_at xs ys h.1 i x y (omega (arith, lt))

  pub zip_long : (xs : List X) (ys : List Y) → AllZip R xs ys → length xs ≡ length ys
  zip_long [] [] h = refl
  zip_long [] (v ∷ ys) h = absurd h
  zip_long (u ∷ xs) [] h = absurd h
  zip_long (u ∷ xs) (v ∷ ys) h = ap suc (zip_long xs ys h.1)
