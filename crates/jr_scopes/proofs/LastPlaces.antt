-- The place of the last that passes.
use Rattle.std.proofs.Common.{◌≡◌, ℕ, zero, suc, ◌-◌, ◌≤◌, List, [], ◌∷◌, ◌++◌, length, get_or, take, map, Option, Some, None, Bool, true, false, cond, refl, sym, ap, subst, ◌∙◌, arith}
use Rattle.std.proofs.Math.Seq.{take-suc, take-length}
use Rattle.std.specs.Prelude.{slice_get, option_map, option_and_then}
use Rattle.jr_scopes.specs.Helds.{Held, or_later, last_of}
use Rattle.jr_scopes.specs.Tracked.{last_place}

pub last_snoc : {X : Type 0} (t : X → Bool) (xs : List X) (y : X) → last_place t (xs ++ y ∷ []) ≡ cond (t y) (Some (length xs)) (last_place t xs)
last_snoc t [] y = refl
last_snoc t (x ∷ xs) y = ap (λ o. or_later (option_map suc o) (cond (t x) (Some 0) None)) (last_snoc t xs y) ∙ by (t y)
  where
    by : (b : Bool) → or_later (option_map suc (cond b (Some (length xs)) (last_place t xs))) (cond (t x) (Some 0) None)
        ≡ cond b (Some (suc (length xs))) (or_later (option_map suc (last_place t xs)) (cond (t x) (Some 0) None))
    by true = refl
    by false = refl

ends : {X : Type 0} (xs : List X) (x : X) (j : ℕ) → length xs ≡ suc j → x ≡ get_or xs j x → take j xs ++ x ∷ [] ≡ xs
ends xs x j n at = ap (λ y. take j xs ++ y ∷ []) at ∙ sym (take-suc xs j x (omega (arith, n))) ∙ ap (λ k. take k xs) (sym n) ∙ take-length xs

-- the last that passes, by the last element and those before it
last_at_end : {X : Type 0} (t : X → Bool) (xs : List X) (x : X) → 1 ≤ length xs → x ≡ get_or xs (length xs - 1) x
    → last_place t xs ≡ cond (t x) (Some (length (take (length xs - 1) xs))) (last_place t (take (length xs - 1) xs))
last_at_end t xs x some at = ap (last_place t) (sym (ends xs x (length xs - 1) (omega (arith, some)) at)) ∙ last_snoc t (take (length xs - 1) xs) x

pub last_here : {X : Type 0} (t : X → Bool) (xs : List X) (x : X) → 1 ≤ length xs → x ≡ get_or xs (length xs - 1) x → t x ≡ true → Some (length (take (length xs - 1) xs)) ≡ last_place t xs
last_here t xs x some at p = sym (last_at_end t xs x some at ∙ ap (λ b. cond b (Some (length (take (length xs - 1) xs))) (last_place t (take (length xs - 1) xs))) p)

pub last_before : {X : Type 0} (t : X → Bool) (xs : List X) (x : X) → 1 ≤ length xs → x ≡ get_or xs (length xs - 1) x → t x ≡ false → last_place t (take (length xs - 1) xs) ≡ last_place t xs
last_before t xs x some at p = sym (last_at_end t xs x some at ∙ ap (λ b. cond b (Some (length (take (length xs - 1) xs))) (last_place t (take (length xs - 1) xs))) p)

pub last_passes : {X : Type 0} (t : X → Bool) (xs : List X) (j : ℕ) → last_place t xs ≡ Some j → (x : X) × (slice_get xs j ≡ Some x) × (t x ≡ true)
last_passes t [] j h = absurd cc
last_passes t (x ∷ xs) j h = by (last_place t xs) refl (t x) refl h (λ i e. last_passes t xs i e)
  where
    by : (o : Option ℕ) → last_place t xs ≡ o → (b : Bool) → t x ≡ b → or_later (option_map suc o) (cond b (Some 0) None) ≡ Some j
        → ((i : ℕ) → last_place t xs ≡ Some i → (y : _) × (slice_get xs i ≡ Some y) × (t y ≡ true)) → (y : _) × (slice_get (x ∷ xs) j ≡ Some y) × (t y ≡ true)
    by (Some i) e b f k more = let m = more i e in let s : suc i ≡ j = cc in (m.0, subst (λ n. slice_get (x ∷ xs) n ≡ Some m.0) s m.1, m.2)
    by None e true f k more = let s : 0 ≡ j = cc in (x, subst (λ n. slice_get (x ∷ xs) n ≡ Some x) s refl, f)
    by None e false f k more = absurd cc

pub last_some : {X : Type 0} (t : X → Bool) (xs : List X) (i : ℕ) (x : X) → slice_get xs i ≡ Some x → t x ≡ true → last_place t xs ≡ None → ⊥
last_some t [] i x at p none = absurd cc
last_some t (y ∷ ys) zero x at p none = by (last_place t ys) (t y) (let s : y ≡ x = cc in ap t s ∙ p) none
  where
    by : (o : Option ℕ) (b : Bool) → b ≡ true → or_later (option_map suc o) (cond b (Some 0) None) ≡ None → ⊥
    by (Some j) b f k = absurd cc
    by None true f k = absurd cc
    by None false f k = absurd cc
last_some t (y ∷ ys) (suc i) x at p none = by (last_place t ys) refl none (last_some t ys i x at p)
  where
    by : (o : Option ℕ) → last_place t ys ≡ o → or_later (option_map suc o) (cond (t y) (Some 0) None) ≡ None → (last_place t ys ≡ None → ⊥) → ⊥
    by (Some j) e k more = absurd cc
    by None e k more = more e

pub last_map : {X Y : Type 0} (f : X → Y) (t : Y → Bool) (xs : List X) → last_place t (map f xs) ≡ last_place (λ x. t (f x)) xs
last_map f t [] = refl
last_map f t (x ∷ xs) = ap (λ o. or_later (option_map suc o) (cond (t (f x)) (Some 0) None)) (last_map f t xs)

-- what the last that passes has
pub last_of_is : {Y : Type 0} (t : Held → Bool) (g : Held → Y) (hs : List Held) → last_of (λ h. cond (t h) (Some (g h)) None) hs ≡ option_and_then (λ i. option_map g (slice_get hs i)) (last_place t hs)
last_of_is t g [] = refl
last_of_is t g (h ∷ hs) = ap (λ o. or_later o (cond (t h) (Some (g h)) None)) (last_of_is t g hs) ∙ by (last_place t hs) refl
  where
    first : (b : Bool) → cond b (Some (g h)) None ≡ option_and_then (λ i. option_map g (slice_get (h ∷ hs) i)) (cond b (Some 0) None)
    first true = refl
    first false = refl

    by : (o : Option ℕ) → last_place t hs ≡ o → or_later (option_and_then (λ i. option_map g (slice_get hs i)) o) (cond (t h) (Some (g h)) None)
        ≡ option_and_then (λ i. option_map g (slice_get (h ∷ hs) i)) (or_later (option_map suc o) (cond (t h) (Some 0) None))
    by None e = first (t h)
    by (Some i) e = let m = last_passes t hs i e in ap (λ o. or_later (option_map g o) (cond (t h) (Some (g h)) None)) m.1 ∙ sym (ap (option_map g) m.1)
