-- A walk upwards on its way.
use Rattle.std.proofs.Common.{◌≡◌, ◌≢◌, ℕ, zero, suc, ◌+◌, ◌<◌, ◌≤◌, List, [], ◌∷◌, length, get_or, Option, Some, None, refl, sym, ap, ◌∙◌, arith, inl, inr, get_or-set_same}
use Rattle.std.proofs.Math.ListN.{set, length-set}
use Rattle.std.specs.Prelude.{◌⊎◌, min}
use Rattle.std.proofs.lemmas.Option.{slice_get-get_or}
use Rattle.std.specs.Prelude.{slice_get, option_and_then}
use Rattle.jr_index.specs.Parents.{up, next}
use Rattle.jr_index.specs.Walked.{IsPassed}

-- what holds on the way, at the class that is next
pub record Walking (parents : List (Option ℕ)) (from free stamp : ℕ) (old new : List ℕ) (class low : ℕ) : Type 0 where
  pub steps : ℕ
  pub here : up steps parents from ≡ Some class
  pub passes : (s : ℕ) → s < steps → IsPassed parents from free stamp old new low s
  pub others : (x : ℕ) → (slice_get new x ≡ slice_get old x) ⊎ ((s : ℕ) × (s < steps) × (up s parents from ≡ Some x))
  pub least : (s : ℕ) × (s ≤ steps) × (up s parents from ≡ Some low)
  pub passes_least : 0 < steps → (s : ℕ) × (s < steps) × (up s parents from ≡ Some low)

-- one step more
pub and_then_assoc : (f g : ℕ → Option ℕ) (o : Option ℕ) → option_and_then (λ p. option_and_then g (f p)) o ≡ option_and_then g (option_and_then f o)
and_then_assoc f g None = refl
and_then_assoc f g (Some p) = refl

same_after : (f g : ℕ → Option ℕ) → ((x : ℕ) → f x ≡ g x) → (o : Option ℕ) → option_and_then f o ≡ option_and_then g o
same_after f g h None = refl
same_after f g h (Some x) = h x

some_after : (o : Option ℕ) → option_and_then Some o ≡ o
some_after None = refl
some_after (Some x) = refl

pub up-suc : (steps : ℕ) (parents : List (Option ℕ)) (j : ℕ) → up (suc steps) parents j ≡ option_and_then (next parents) (up steps parents j)
unfolding up
up-suc zero parents j = some_after (next parents j)
up-suc (suc steps) parents j = same_after _ _ (up-suc steps parents) (next parents j) ∙ and_then_assoc (up steps parents) (next parents) (next parents j)

get_set_same : (xs : List ℕ) (i v : ℕ) → i < length xs → slice_get (set xs i v) i ≡ Some v
get_set_same xs i v h =
    let within : i < length (set xs i v) = simp length-set h in
    slice_get-get_or (set xs i v) i v within ∙ ap Some (get_or-set_same' xs i v h)
  where
    get_or-set_same' : (xs : List ℕ) (i v : ℕ) → i < length xs → get_or (set xs i v) i v ≡ v
    get_or-set_same' xs i v h = rw get_or-set_same

get_set_other : (xs : List ℕ) (i x v : ℕ) → x ≢ i → slice_get (set xs i v) x ≡ slice_get xs x
get_set_other [] i x v h = refl
get_set_other (y ∷ ys) zero zero v h = absurd (h refl)
get_set_other (y ∷ ys) zero (suc x) v h = refl
get_set_other (y ∷ ys) (suc i) zero v h = refl
get_set_other (y ∷ ys) (suc i) (suc x) v h = get_set_other ys i x v (λ e. h (ap suc e))

get_set_keeps : (xs : List ℕ) (i x v : ℕ) → slice_get xs x ≡ Some v → slice_get (set xs i v) x ≡ Some v
get_set_keeps [] i x v h = h
get_set_keeps (y ∷ ys) zero zero v h = refl
get_set_keeps (y ∷ ys) zero (suc x) v h = h
get_set_keeps (y ∷ ys) (suc i) zero v h = h
get_set_keeps (y ∷ ys) (suc i) (suc x) v h = get_set_keeps ys i x v h

pub same_number : (a b : ℕ) → (a ≡ b) ⊎ (a ≢ b)
same_number a b = grind arith

-- what has been passed after one step more
pub record Passed (parents : List (Option ℕ)) (from free stamp : ℕ) (old new : List ℕ) (low n : ℕ) : Type 0 where
  pub passes : (s : ℕ) → s < n → IsPassed parents from free stamp old new low s
  pub others : (x : ℕ) → (slice_get new x ≡ slice_get old x) ⊎ ((s : ℕ) × (s < n) × (up s parents from ≡ Some x))
  pub least : (s : ℕ) × (s < n) × (up s parents from ≡ Some low)

pub passed_more : (parents : List (Option ℕ)) (from free stamp : ℕ) (old new : List ℕ) (class low low' : ℕ) → free ≢ stamp → class < length new → get_or new class 0 ≡ free
    → low' ≡ min low class → (w : Walking parents from free stamp old new class low) → Passed parents from free stamp old (set new class stamp) low' (w.steps + 1)
passed_more parents from free stamp old new class low low' differ within is_free lower w =
    let now_free : slice_get new class ≡ Some free = slice_get-get_or new class 0 within ∙ ap Some is_free in
    let was_free : slice_get old class ≡ Some free = free_before now_free (w.others class) in
    record {
      passes = λ s lt. step s (split s w.steps lt) was_free;
      others = λ x. other x (same_number x class) (w.others x);
      least = lowest (chosen low class);
    }
  where
    free_before : slice_get new class ≡ Some free → ((slice_get new class ≡ slice_get old class) ⊎ ((s : ℕ) × (s < w.steps) × (up s parents from ≡ Some class))) → slice_get old class ≡ Some free
    free_before now_free (inl e) = sym e ∙ now_free
    free_before now_free (inr (s, lt, e)) =
        let p = w.passes s lt in
        let same : Some p.class ≡ Some class = sym p.reached ∙ e in
        let at : p.class ≡ class = cc in
        let stamped : slice_get new class ≡ Some stamp = (λ i. slice_get new (sym at i)) ∙ p.stamped in
        let both : Some free ≡ Some stamp = sym now_free ∙ stamped in
        absurd (differ cc)

    other : (x : ℕ) → ((x ≡ class) ⊎ (x ≢ class)) → ((slice_get new x ≡ slice_get old x) ⊎ ((s : ℕ) × (s < w.steps) × (up s parents from ≡ Some x)))
        → (slice_get (set new class stamp) x ≡ slice_get old x) ⊎ ((s : ℕ) × (s < w.steps + 1) × (up s parents from ≡ Some x))
    other x (inl e) o = inr (w.steps, omega arith, w.here ∙ ap Some (sym e))
    other x (inr ne) (inl same) = inl (get_set_other new class x stamp ne ∙ same)
    other x (inr ne) (inr (s, lt, e)) = inr (s, omega (arith, lt), e)

    split : (s n : ℕ) → s < n + 1 → (s < n) ⊎ (s ≡ n)
    split s n h = grind arith

    chosen : (a b : ℕ) → (min a b ≡ a) ⊎ (min a b ≡ b)
    chosen a b = grind arith

    step : (s : ℕ) → ((s < w.steps) ⊎ (s ≡ w.steps)) → slice_get old class ≡ Some free → IsPassed parents from free stamp old (set new class stamp) low' s
    step s (inl lt) was_free =
        let p = w.passes s lt in
        record { class = p.class; reached = p.reached; was_free = p.was_free; stamped = get_set_keeps new class p.class stamp p.stamped; least = let l = p.least in omega (arith, l, lower) }
    step s (inr is) was_free =
        record { class = class; reached = ap (λ n. up n parents from) is ∙ w.here; was_free = was_free; stamped = get_set_same new class stamp within; least = omega (arith, lower) }

    lowest : ((min low class ≡ low) ⊎ (min low class ≡ class)) → (s : ℕ) × (s < w.steps + 1) × (up s parents from ≡ Some low')
    lowest (inl e) = (w.least.0, omega (arith, w.least.1), w.least.2 ∙ ap Some (sym (lower ∙ e)))
    lowest (inr e) = (w.steps, omega arith, w.here ∙ ap Some (sym (lower ∙ e)))

pub next_is : (parents : List (Option ℕ)) (j : ℕ) (o : Option ℕ) → get_or parents j None ≡ o → next parents j ≡ o
next_is [] j o h = h
next_is (None ∷ ps) zero o h = h
next_is (Some p ∷ ps) zero o h = h
next_is (x ∷ ps) (suc j) o h = next_is ps j o h
