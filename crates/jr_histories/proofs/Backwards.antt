-- A map of keys that can be undone leads back: equal images are of equals, exchanges of images are
-- exchanges, and what is asked of the image of a step holds of the step.
use Rattle.std.proofs.Common.{◌≡◌, ◌⊎◌, ℕ, zero, suc, Bool, true, false, List, [], ◌∷◌, map, Some, None, nat_eq, refl, sym, ap, ◌∙◌, subst, inl, inr, ⊎_elim}
use Rattle.jr_plans.specs.Swaps.{same, exchange, behind, chain}
use Rattle.jr_runs.specs.Keys.{Keys}
use Rattle.jr_runs.specs.Values.{Value, int, truth, null, text, class_object, object, Ty, int_type, boolean_type, reference}
use Rattle.jr_runs.specs.Actions.{Location, part, shared, Action, load, store, enter, exit, create, start, Trace}
use Rattle.jr_runs.specs.Rows.{Rows}
use Rattle.jr_runs.specs.Reordering.{kind_of, location_of, stores, Free, Reordered}
use Rattle.jr_runs.specs.KeyMaps.{KeyMap, Undoes, value_image, type_image, location_image, action_image, trace_image}
use Rattle.jr_runs.proofs.Undoing.{value_back}
use Rattle.jr_runs.specs.FirstValues.{First, gives, makes, default_of}
use Rattle.jr_histories.specs.Histories.{Thread, started, thread_at, Step, if_same, part_of, FirstIs, InitialIs, LastIs, Counts, number_of, made_number, NoneMakes, NoneStarts, OneStarts, MayCome, AllMayCome}
use Rattle.jr_histories.specs.Laws.{thread_image, step_image, first_image}

module _ {K : Keys} (r : KeyMap K) where
  kind_image : (a : Action K) → kind_of (action_image r a) ≡ kind_of a
  kind_image (load k at v) = refl
  kind_image (store k at v) = refl
  kind_image (enter o) = refl
  kind_image (exit o) = refl
  kind_image (create o) = refl
  kind_image (start o v) = refl

  stores_image : (a : Action K) → stores (action_image r a) ≡ stores a
  stores_image (load k at v) = refl
  stores_image (store k at v) = refl
  stores_image (enter o) = refl
  stores_image (exit o) = refl
  stores_image (create o) = refl
  stores_image (start o v) = refl

  one_location : (x y : Location K) → Some x ≡ Some y → x ≡ y
  one_location x y e = cc

  no_location : (A : Type 0) (x : Location K) → None ≡ Some x → A
  no_location A x e = absurd (none e)
    where
      none : None ≡ Some x → ⊥
      none d = cc

  location_to : (a : Action K) (at : Location K) → location_of a ≡ Some at → location_of (action_image r a) ≡ Some (location_image r at)
  location_to (load k l v) at e = ap (λ x. Some (location_image r x)) (one_location l at e)
  location_to (store k l v) at e = ap (λ x. Some (location_image r x)) (one_location l at e)
  location_to (enter o) at e = no_location (None ≡ Some (location_image r at)) at e
  location_to (exit o) at e = no_location (None ≡ Some (location_image r at)) at e
  location_to (create o) at e = no_location (None ≡ Some (location_image r at)) at e
  location_to (start o v) at e = no_location (None ≡ Some (location_image r at)) at e

  -- what is free under other keys is free
  free_back : (a b : Action K) → Free (action_image r a) (action_image r b) → Free a b
  free_back a b h = record {
    allowed = rw (sym (kind_image a), sym (kind_image b)) h.allowed;
    apart = λ at e d.
        let g = h.apart (location_image r at) (location_to a at e) (location_to b at d) in
        (sym (stores_image a) ∙ g.0, sym (stores_image b) ∙ g.1);
  }

  swaps_under : (x y : Trace K) → Reordered x y → (u : Trace K) → x ≡ trace_image r u → (w : Trace K) × (y ≡ trace_image r w) × Reordered u w
  swaps_under x y (same v) u e = (u, e, same u)
  swaps_under x y (exchange a b v h) [] e = absurd (filled a (b ∷ v) e)
    where
      filled : (a : Action K) (l : Trace K) → a ∷ l ≡ [] → ⊥
      filled a l e = cc
  swaps_under x y (exchange a b v h) (c ∷ []) e = absurd (longer a b v (action_image r c) e)
    where
      longer : (a b : Action K) (l : Trace K) (d : Action K) → a ∷ b ∷ l ≡ d ∷ [] → ⊥
      longer a b l d e = cc
  swaps_under x y (exchange a b v h) (c ∷ d ∷ u) e =
      let p : a ≡ action_image r c = cc in
      let q : b ≡ action_image r d = cc in
      let t : v ≡ trace_image r u = cc in
      (d ∷ c ∷ u, rw (p, q, t) refl, exchange c d u (free_back c d (subst (λ k. Free k (action_image r d)) p (subst (λ k. Free a k) q h))))
  swaps_under x y (behind a v t h) [] e = absurd (filled a v e)
    where
      filled : (a : Action K) (l : Trace K) → a ∷ l ≡ [] → ⊥
      filled a l e = cc
  swaps_under x y (behind a v t h) (c ∷ u) e =
      let p : a ≡ action_image r c = cc in
      let q : v ≡ trace_image r u = cc in
      let g = swaps_under v t h u q in
      (c ∷ g.0, ap (λ l. a ∷ l) g.1 ∙ ap (λ k. k ∷ trace_image r g.0) p, behind c u g.0 g.2)
  swaps_under x y (chain a b c h g) u e =
      let f = swaps_under a b h u e in
      let d = swaps_under b c g f.0 f.1 in
      (d.0, d.1, chain u f.0 d.0 f.2 d.2)

  if_image : (b : Bool) (x : Action K) (t : Trace K) → if_same b (action_image r x) (trace_image r t) ≡ trace_image r (if_same b x t)
  if_image true x t = refl
  if_image false x t = refl

  pub part_image : (i : ℕ) (h : List (Step K)) → part_of i (map (step_image r) h) ≡ trace_image r (part_of i h)
  part_image i [] = refl
  part_image i (e ∷ h) = ap (if_same (nat_eq i e.thread) (action_image r e.action)) (part_image i h) ∙ if_image (nat_eq i e.thread) e.action (part_of i h)

  one_thread : (x y : Thread K) → Some x ≡ Some y → x ≡ y
  one_thread x y e = cc

  pub thread_to : (threads : List (Thread K)) (i : ℕ) (x : Thread K) → thread_at threads i ≡ Some x → thread_at (map (thread_image r) threads) i ≡ Some (thread_image r x)
  thread_to [] i x e = absurd (none e)
    where
      none : None ≡ Some x → ⊥
      none d = cc
  thread_to (y ∷ ys) zero x e = ap (λ z. Some (thread_image r z)) (one_thread y x e)
  thread_to (y ∷ ys) (suc i) x e = thread_to ys i x e

  -- a thread of the images is the image of one
  pub thread_from : (threads : List (Thread K)) (i : ℕ) (y : Thread K) → thread_at (map (thread_image r) threads) i ≡ Some y → (x : Thread K) × (thread_at threads i ≡ Some x)
  thread_from [] i y e = absurd (none e)
    where
      none : None ≡ Some y → ⊥
      none d = cc
  thread_from (x ∷ xs) zero y e = (x, refl)
  thread_from (x ∷ xs) (suc i) y e = thread_from xs i y e

  number_image : (v : Value K) → number_of (value_image r v) ≡ number_of v
  number_image (int z) = refl
  number_image (truth b) = refl
  number_image null = refl
  number_image (text t) = refl
  number_image (class_object c) = refl
  number_image (object n c) = refl

  made_image : (a : Action K) → made_number (action_image r a) ≡ made_number a
  made_image (load k at v) = refl
  made_image (store k at v) = refl
  made_image (enter o) = refl
  made_image (exit o) = refl
  made_image (create o) = number_image o
  made_image (start o v) = refl

  pub default_image : (T : Ty K) → default_of (type_image r T) ≡ value_image r (default_of T)
  default_image int_type = refl
  default_image boolean_type = refl
  default_image (reference c) = refl

  none_makes : (n : ℕ) (b : List (Step K)) → NoneMakes n (map (step_image r) b) → NoneMakes n b
  none_makes n [] h = tt
  none_makes n (e ∷ b) h = (λ d. h.0 (made_image e.action ∙ d), none_makes n b h.1)

  none_starts : (o : Value K) (b : List (Step K)) → NoneStarts (value_image r o) (map (step_image r) b) → NoneStarts o b
  none_starts o [] h = tt
  none_starts o (e ∷ b) h = (λ v d. h.0 (value_image r v) (ap (action_image r) d), none_starts o b h.1)

module _ {K : Keys} (r s : KeyMap K) (u : Undoes r s) where
  location_back : (x : Location K) → location_image s (location_image r x) ≡ x
  location_back (part o f) = λ i. part (value_back r s u o i) (u.field f i)
  location_back (shared f) = ap shared (u.field f)

  pub action_back : (a : Action K) → action_image s (action_image r a) ≡ a
  action_back (load k at v) = λ i. load k (location_back at i) (value_back r s u v i)
  action_back (store k at v) = λ i. store k (location_back at i) (value_back r s u v i)
  action_back (enter o) = ap enter (value_back r s u o)
  action_back (exit o) = ap exit (value_back r s u o)
  action_back (create o) = ap create (value_back r s u o)
  action_back (start o v) = λ i. start (value_back r s u o i) (value_back r s u v i)

  pub trace_back : (t : Trace K) → trace_image s (trace_image r t) ≡ t
  trace_back [] = refl
  trace_back (a ∷ t) = λ i. action_back a i ∷ trace_back t i

  pub value_under : (v w : Value K) → value_image r v ≡ value_image r w → v ≡ w
  value_under v w e = sym (value_back r s u v) ∙ ap (value_image s) e ∙ value_back r s u w

  action_under : (a b : Action K) → action_image r a ≡ action_image r b → a ≡ b
  action_under a b e = sym (action_back a) ∙ ap (action_image s) e ∙ action_back b

  -- exchanges of images are exchanges
  pub swaps_back : (t w : Trace K) → Reordered (trace_image r t) (trace_image r w) → Reordered t w
  swaps_back t w h =
      let g = swaps_under r (trace_image r t) (trace_image r w) h t refl in
      let e : g.0 ≡ w = sym (trace_back g.0) ∙ ap (trace_image s) (sym g.1) ∙ trace_back w in
      subst (λ x. Reordered t x) e g.2

  counts_back : (j : ℕ) (a : Action K) (b : List (Step K)) (n : ℕ) → Counts j (action_image r a) (map (step_image r) b) n → Counts j a b n
  counts_back j a [] n h = h
  counts_back j a (e ∷ b) n h = ⊎_elim
      (λ g. inl (g.0, action_under e.action a g.1, g.2, g.3, counts_back j a b g.2 g.4))
      (λ g. inr (λ d. g.0 (d.0, ap (action_image r) d.1), counts_back j a b n g.1))
      h

  one_starts : (o : Value K) (b : List (Step K)) → OneStarts (value_image r o) (map (step_image r) b) → OneStarts o b
  one_starts o [] h = h
  one_starts o (e ∷ b) h = ⊎_elim
      (λ g. inl (value_image s g.0, sym (action_back e.action) ∙ ap (action_image s) g.1 ∙ ap (λ x. start x (value_image s g.0)) (value_back r s u o)))
      (λ g. inr (one_starts o b g))
      h

  no_starts : (o : Value K) (b : List (Step K)) → NoneStarts o b → NoneStarts (value_image r o) (map (step_image r) b)
  no_starts o [] h = tt
  no_starts o (e ∷ b) h = (λ v d. h.0 (value_image s v) (sym (action_back e.action) ∙ ap (action_image s) d ∙ ap (λ x. start x (value_image s v)) (value_back r s u o)), no_starts o b h.1)

  module _ (R R' : Rows K) (types : (f : K.field) → R'.field_type (r.field f) ≡ type_image r (R.field_type f)) (first first' : K.field → First K) (firsts : (f : K.field) → first' (r.field f) ≡ first_image r (first f)) (objects' : K.field → ℕ) where
    abbrev pub objects : K.field → ℕ
    objects f = objects' (r.field f)

    first_back : (x : First K) (n : ℕ) (v : Value K) → FirstIs (first_image r x) n (value_image r v) → FirstIs x n v
    first_back (gives w) n v h = value_under v w h
    first_back (makes c) n v h = value_under v (object n c) h

    initial_back : (at : Location K) (v : Value K) → InitialIs R' first' objects' (location_image r at) (value_image r v) → InitialIs R first objects at v
    initial_back (part o f) v h = value_under v (default_of (R.field_type f)) (h ∙ ap default_of (types f) ∙ default_image r (R.field_type f))
    initial_back (shared f) v h = first_back (first f) (objects f) v (subst (λ x. FirstIs x (objects' (r.field f)) (value_image r v)) (firsts f) h)

    last_back : (b : List (Step K)) (at : Location K) (v : Value K) → LastIs R' first' objects' (map (step_image r) b) (location_image r at) (value_image r v) → LastIs R first objects b at v
    last_back [] at v h = initial_back at v h
    last_back (e ∷ b) at v h = ⊎_elim
        (λ g. inl (g.0, action_under e.action (store g.0 at v) g.1))
        (λ g. inr (λ k w d. g.0 k (value_image r w) (ap (action_image r) d), last_back b at v g.1))
        h

    module _ (threads : List (Thread K)) where
      step_back : (b : List (Step K)) (e : Step K) → MayCome R' first' objects' (map (thread_image r) threads) (map (step_image r) b) (step_image r e) → MayCome R first objects threads b e
      step_back b e h = record {
        loads = λ k at v d. last_back b at v (h.loads k (location_image r at) (value_image r v) (ap (action_image r) d));
        enters = λ o d j other.
            let g = h.enters (value_image r o) (ap (action_image r) d) j other in
            (g.0, counts_back j (enter o) b g.0 g.1, counts_back j (exit o) b g.0 g.2);
        is_new = λ n d. none_makes r n b (h.is_new n (made_image r e.action ∙ d));
        is_not_first = λ n d f c q i. h.is_not_first n (made_image r e.action ∙ d) (r.field f) (r.class c) (firsts f ∙ ap (first_image r) q) i;
        starts = λ o v d.
            let g = h.starts (value_image r o) (value_image r v) (ap (action_image r) d) in
            (λ q. none_starts r o b (g.0 (ap (value_image r) q)), λ q. value_under v (truth false) (g.1 (no_starts o b q)));
        was_started = λ o d. one_starts o b (h.was_started (value_image r o) (thread_to r threads e.thread (started o) d));
      }

      pub steps_back : (b h : List (Step K)) → AllMayCome R' first' objects' (map (thread_image r) threads) (map (step_image r) b) (map (step_image r) h) → AllMayCome R first objects threads b h
      steps_back b [] g = tt
      steps_back b (e ∷ h) g = (step_back b e g.0, steps_back (e ∷ b) h g.1)
