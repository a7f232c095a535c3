-- Two plans that do the same, whatever they are answered, have the same runs: by induction on plans
-- and on fuel.
use Rattle.std.proofs.Common.{◌≡◌, ℕ, zero, suc, Bool, true, false, List, [], ◌∷◌, ◌++◌, refl, sym, ap, subst}
use Rattle.jr_plans.specs.Plan.{Plan, done, act, ask, call, and_then}
use Rattle.jr_plans.specs.Run.{End, ended, cut, ill_typed}
use Rattle.jr_plans.specs.Numbered.{Numbered, NumberedRun, numbered_after, numbered_on, numbered_answer, NumberedRunner, numbered_run, numbers_of, numbered_runner}
use Rattle.jr_cover.specs.Unread.{EndRel, SameRuns}

-- Go: which calls go beside one another; Back: how their answers do
module _ {V E S R : Type 0} (Go : S → S → Type 0) (Back : (c d : S) → Go c d → R → R → Type 0) where
  pub data Beside {A B : Type 0} (Q : A → B → Type 0) : Plan V E S R A → Plan V E S R B → Type 0 where
    both_done : (a : A) (b : B) → Q a b → Beside Q (done a) (done b)
    both_act : (x : E) (p : Plan V E S R A) (q : Plan V E S R B) → Beside Q p q → Beside Q (act x p) (act x q)
    both_ask : (f : V → Bool) (s : V → E) (p : V → Plan V E S R A) (q : V → Plan V E S R B) → ((v : V) → Beside Q (p v) (q v)) → Beside Q (ask f s p) (ask f s q)
    both_call : (c d : S) (p : R → Plan V E S R A) (q : R → Plan V E S R B) (h : Go c d) → ((r t : R) → Back c d h r t → Beside Q (p r) (q t)) → Beside Q (call c p) (call d q)

  pub beside_and : {A B C D : Type 0} (Q : A → B → Type 0) (U : C → D → Type 0) (p : Plan V E S R A) (q : Plan V E S R B) (k : A → Plan V E S R C) (j : B → Plan V E S R D)
      → Beside Q p q → ((a : A) (b : B) → Q a b → Beside U (k a) (j b)) → Beside U (and_then p k) (and_then q j)
  beside_and Q U _ _ k j (both_done a b h) g = g a b h
  beside_and Q U _ _ k j (both_act x p q h) g = both_act x (and_then p k) (and_then q j) (beside_and Q U p q k j h g)
  beside_and Q U _ _ k j (both_ask f s p q h) g = both_ask f s (λ v. and_then (p v) k) (λ v. and_then (q v) j) (λ v. beside_and Q U (p v) (q v) k j (h v) g)
  beside_and Q U _ _ k j (both_call c d p q h i) g = both_call c d (λ r. and_then (p r) k) (λ t. and_then (q t) j) h (λ r t b. beside_and Q U (p r) (q t) k j (i r t b) g)

  -- a plan beside itself, where each call may go beside itself and equal answers are equal
  pub beside_itself : {A : Type 0} (itself : (c : S) → Go c c) → ((c : S) (r t : R) → Back c c (itself c) r t → r ≡ t) → (p : Plan V E S R A) → Beside (λ (x : A) (y : A). x ≡ y) p p
  beside_itself i e (done a) = both_done a a refl
  beside_itself i e (act x p) = both_act x p p (beside_itself i e p)
  beside_itself i e (ask f s p) = both_ask f s p p (λ v. beside_itself i e (p v))
  beside_itself {A = A} i e (call c p) = both_call c c p p (i c) (λ r t b. subst (λ z. Beside (λ (x : A) (y : A). x ≡ y) (p r) (p z)) (e c r t b) (beside_itself i e (p r)))

  -- ---- runs

  after_same : {A B : Type 0} (Q : A → B → Type 0) (t : List (Numbered E)) (x : NumberedRun V E A) (y : NumberedRun V E B) → SameRuns Q x y → SameRuns Q (numbered_after t x) (numbered_after t y)
  after_same Q t x y h = record { traces = ap (λ u. t ++ u) h.traces; ends = h.ends; answers = h.answers; numbers = h.numbers }

  answer_same : {A B : Type 0} (Q : A → B → Type 0) (b : Bool) (e : Numbered E) (vs : List V) (n : ℕ) (x : NumberedRun V E A) (y : NumberedRun V E B) → SameRuns Q x y → SameRuns Q (numbered_answer b e vs n x) (numbered_answer b e vs n y)
  answer_same Q true e vs n x y h = after_same Q (e ∷ []) x y h
  answer_same Q false e vs n x y h = record { traces = refl; ends = tt; answers = refl; numbers = refl }

  on_end : {A B C D : Type 0} (Q : A → B → Type 0) (U : C → D → Type 0) (t : List (Numbered E)) (e : End A) (f : End B) (vs : List V) (n : ℕ) (k : A → List V → ℕ → NumberedRun V E C) (j : B → List V → ℕ → NumberedRun V E D)
      → EndRel Q e f → ((a : A) (b : B) → Q a b → SameRuns U (k a vs n) (j b vs n)) → SameRuns U (numbered_on t e vs n k) (numbered_on t f vs n j)
  on_end Q U t (ended a) (ended b) vs n k j h g = after_same U t (k a vs n) (j b vs n) (g a b h)
  on_end Q U t (ended a) cut vs n k j h g = absurd h
  on_end Q U t (ended a) ill_typed vs n k j h g = absurd h
  on_end Q U t cut (ended b) vs n k j h g = absurd h
  on_end Q U t cut cut vs n k j h g = record { traces = refl; ends = tt; answers = refl; numbers = refl }
  on_end Q U t cut ill_typed vs n k j h g = absurd h
  on_end Q U t ill_typed (ended b) vs n k j h g = absurd h
  on_end Q U t ill_typed cut vs n k j h g = absurd h
  on_end Q U t ill_typed ill_typed vs n k j h g = record { traces = refl; ends = tt; answers = refl; numbers = refl }

  -- the second run with what the first one shows
  on_same : {A B C D : Type 0} (Q : A → B → Type 0) (U : C → D → Type 0) (t u : List (Numbered E)) (e : End A) (f : End B) (vs ws : List V) (n m : ℕ) (k : A → List V → ℕ → NumberedRun V E C) (j : B → List V → ℕ → NumberedRun V E D)
      → u ≡ t → ws ≡ vs → m ≡ n → EndRel Q e f → ((a : A) (b : B) → Q a b → SameRuns U (k a vs n) (j b vs n)) → SameRuns U (numbered_on t e vs n k) (numbered_on u f ws m j)
  on_same Q U t u e f vs ws n m k j i o l h g = rw (i, o, l) (on_end Q U t e f vs n k j h g)

  module _ (H : NumberedRunner V E S R) where
    abbrev pub CallsGo : Type 0
    CallsGo = (c d : S) (h : Go c d) (me n : ℕ) (vs : List V) → SameRuns (Back c d h) (H c me n vs) (H d me n vs)

    pub plans_go : {A B : Type 0} → CallsGo → (Q : A → B → Type 0) (p : Plan V E S R A) (q : Plan V E S R B) → Beside Q p q → (me n : ℕ) (vs : List V) → SameRuns Q (numbered_run H p me n vs) (numbered_run H q me n vs)
    plans_go calls Q _ _ (both_done a b h) me n vs = record { traces = refl; ends = h; answers = refl; numbers = refl }
    plans_go calls Q _ _ (both_act x p q h) me n vs = after_same Q (record { activation = me; action = x } ∷ []) (numbered_run H p me n vs) (numbered_run H q me n vs) (plans_go calls Q p q h me n vs)
    plans_go calls Q _ _ (both_ask f s p q h) me n [] = record { traces = refl; ends = tt; answers = refl; numbers = refl }
    plans_go calls Q _ _ (both_ask f s p q h) me n (v ∷ vs) = answer_same Q (f v) (record { activation = me; action = s v }) vs n (numbered_run H (p v) me n vs) (numbered_run H (q v) me n vs) (plans_go calls Q (p v) (q v) (h v) me n vs)
    plans_go calls Q _ _ (both_call c d p q h i) me n vs =
        let x = H c me n vs in
        let y = H d me n vs in
        let z = calls c d h me n vs in
        on_same (Back c d h) Q x.trace y.trace x.end y.end x.left y.left x.next y.next (λ r ws m. numbered_run H (p r) me m ws) (λ t ws m. numbered_run H (q t) me m ws) z.traces z.answers z.numbers z.ends
        (λ r t b. plans_go calls Q (p r) (q t) (i r t b) me x.next x.left)

  -- opens c: is it an activation of its own?
  module _ (opens : S → Bool) (table : S → Plan V E S R R) (alike : (c d : S) → Go c d → opens d ≡ opens c) (tables : (c d : S) (h : Go c d) → Beside (Back c d h) (table c) (table d)) where
    pub calls_go : (n : ℕ) → CallsGo (numbered_runner opens table n)
    calls_go zero c d h me n vs = record { traces = refl; ends = tt; answers = refl; numbers = refl }
    calls_go (suc k) c d h me n vs = subst
        (λ b. SameRuns (Back c d h) (numbered_run (numbered_runner opens table k) (table c) (numbers_of (opens c) me n).0 (numbers_of (opens c) me n).1 vs) (numbered_run (numbered_runner opens table k) (table d) (numbers_of b me n).0 (numbers_of b me n).1 vs))
        (sym (alike c d h))
        (plans_go (numbered_runner opens table k) (calls_go k) (Back c d h) (table c) (table d) (tables c d h) (numbers_of (opens c) me n).0 (numbers_of (opens c) me n).1 vs)

    -- the same of pieces, in an activation that goes on
    pub pieces_go : {A B : Type 0} (Q : A → B → Type 0) (fuel : ℕ) (p : Plan V E S R A) (q : Plan V E S R B) → Beside Q p q → (me n : ℕ) (vs : List V)
        → SameRuns Q (numbered_run (numbered_runner opens table fuel) p me n vs) (numbered_run (numbered_runner opens table fuel) q me n vs)
    pieces_go Q fuel p q h me n vs = plans_go (numbered_runner opens table fuel) (calls_go fuel) Q p q h me n vs
