-- Fuel as a budget that is handed on, and fuel as a depth, have the same runs.
use Rattle.std.proofs.Common.{◌≡◌, ◌≤◌, ℕ, zero, suc, ◌+◌, Bool, true, false, List, [], ◌∷◌, ◌++◌, refl, sym, ap, ◌∙◌, subst, append_assoc, arith}
use Rattle.jr_plans.specs.Plan.{Plan, done, act, ask, call}
use Rattle.jr_plans.specs.Run.{End, ended, cut, ill_typed, Outcome, goes_on, joined, answered, Runner, run, runner, Keeps, Grows}
use Rattle.jr_plans.specs.Budget.{BudgetRun, budget_after, budget_on, budget_answer, BudgetRunner, budget_run, budget_within, budget_runner, SpendsItsBudget, without_fuel, FuelReadingsAgree}
use Rattle.jr_plans.proofs.Growth.{keeps_after, keeps_joined, keeps_answered}

-- ---- the depth plays no part

-- a call leaves no more than it was given
abbrev Spares : {V E S R : Type 0} → BudgetRunner V E S R → Type 0
Spares {V = V} {S = S} H = (c : S) (n : ℕ) (vs : List V) → (H c n vs).fuel ≤ n

answer_spares : {V E A : Type 0} (b : Bool) (x : E) (vs : List V) (n : ℕ) (o : BudgetRun V E A) → o.fuel ≤ n → (budget_answer b x vs n o).fuel ≤ n
answer_spares true x vs n o h = h
answer_spares false x vs n o h = omega arith

on_spares : {V E A B : Type 0} (t : List E) (e : End A) (vs : List V) (m n : ℕ) → m ≤ n → (k : A → List V → ℕ → BudgetRun V E B) → ((a : A) (ws : List V) (j : ℕ) → (k a ws j).fuel ≤ j) → (budget_on t e vs m k).fuel ≤ n
on_spares t (ended a) vs m n h k g = let d : (k a vs m).fuel ≤ m = g a vs m in omega (arith, h, d)
on_spares t cut vs m n h k g = h
on_spares t ill_typed vs m n h k g = h

run_spares : {V E S R A : Type 0} (H : BudgetRunner V E S R) → Spares H → (p : Plan V E S R A) (n : ℕ) (vs : List V) → (budget_run H p n vs).fuel ≤ n
run_spares H s (done a) n vs = omega arith
run_spares H s (act x p) n vs = run_spares H s p n vs
run_spares H s (ask f w p) n [] = omega arith
run_spares H s (ask f w p) n (v ∷ vs) = answer_spares (f v) (w v) vs n (budget_run H (p v) n vs) (run_spares H s (p v) n vs)
run_spares H s (call c p) n vs =
    let o = H c n vs in
    on_spares o.trace o.end o.left o.fuel n (s c n vs) (λ r ws m. budget_run H (p r) m ws) (λ r ws m. run_spares H s (p r) m ws)

within_spares : {V E S R : Type 0} (table : S → Plan V E S R R) (d : ℕ) → Spares (budget_within table d)
within_spares table zero c n vs = omega arith
within_spares table (suc d) c zero vs = omega arith
within_spares table (suc d) c (suc n) vs = let h : (budget_run (budget_within table d) (table c) n vs).fuel ≤ n = run_spares (budget_within table d) (within_spares table d) (table c) n vs in omega (arith, h)

on_same : {V E A B : Type 0} (t : List E) (e : End A) (vs : List V) (m : ℕ) (k k' : A → List V → ℕ → BudgetRun V E B) → ((a : A) → k a vs m ≡ k' a vs m) → budget_on t e vs m k ≡ budget_on t e vs m k'
on_same t (ended a) vs m k k' h = ap (budget_after t) (h a)
on_same t cut vs m k k' h = refl
on_same t ill_typed vs m k k' h = refl

-- runners that agree on what is spent give the same run
same_run : {V E S R A : Type 0} (H H' : BudgetRunner V E S R) (n : ℕ) → Spares H → ((c : S) (m : ℕ) (vs : List V) → m ≤ n → H c m vs ≡ H' c m vs)
    → (p : Plan V E S R A) (m : ℕ) (vs : List V) → m ≤ n → budget_run H p m vs ≡ budget_run H' p m vs
same_run H H' n s h (done a) m vs i = refl
same_run H H' n s h (act x p) m vs i = ap (budget_after (x ∷ [])) (same_run H H' n s h p m vs i)
same_run H H' n s h (ask f w p) m [] i = refl
same_run H H' n s h (ask f w p) m (v ∷ vs) i = ap (budget_answer (f v) (w v) vs m) (same_run H H' n s h (p v) m vs i)
same_run H H' n s h (call c p) m vs i =
    let o = H c m vs in
    let d : o.fuel ≤ m = s c m vs in
    on_same o.trace o.end o.left o.fuel (λ r ws j. budget_run H (p r) j ws) (λ r ws j. budget_run H' (p r) j ws) (λ r. same_run H H' n s h (p r) o.fuel o.left (omega (arith, d, i)))
    ∙ ap (λ q. budget_on q.trace q.end q.left q.fuel (λ r ws j. budget_run H' (p r) j ws)) (h c m vs i)

same_depth : {V E S R : Type 0} (table : S → Plan V E S R R) (d e n : ℕ) → n ≤ d → n ≤ e → (c : S) (vs : List V) → budget_within table d c n vs ≡ budget_within table e c n vs
same_depth table zero zero n i j c vs = refl
same_depth table zero (suc e) zero i j c vs = refl
same_depth table zero (suc e) (suc n) i j c vs = absurd (omega (arith, i))
same_depth table (suc d) zero zero i j c vs = refl
same_depth table (suc d) zero (suc n) i j c vs = absurd (omega (arith, j))
same_depth table (suc d) (suc e) zero i j c vs = refl
same_depth table (suc d) (suc e) (suc n) i j c vs =
    same_run (budget_within table d) (budget_within table e) n (within_spares table d) (λ c m ws k. same_depth table d e m (omega (arith, i, k)) (omega (arith, j, k)) c ws) (table c) n vs (omega arith)

pub spends_its_budget : {V E S R : Type 0} → SpendsItsBudget V E S R
spends_its_budget = record {
  none = λ table c vs. refl;
  call = λ table c n vs. same_run (budget_within table n) (budget_runner table) n (within_spares table n) (λ d m ws k. same_depth table n m m k (omega arith) d ws) (table c) n vs (omega arith);
}

-- ---- a budget is enough as a depth

on_bare : {V E A B : Type 0} (t : List E) (e : End A) (vs : List V) (n : ℕ) (k : A → List V → ℕ → BudgetRun V E B) → without_fuel (budget_on t e vs n k) ≡ goes_on t e vs (λ a ws. without_fuel (k a ws n))
on_bare t (ended a) vs n k = refl
on_bare t cut vs n k = refl
on_bare t ill_typed vs n k = refl

answer_bare : {V E A : Type 0} (b : Bool) (x : E) (vs : List V) (n : ℕ) (o : BudgetRun V E A) → without_fuel (budget_answer b x vs n o) ≡ answered b x vs (without_fuel o)
answer_bare true x vs n o = refl
answer_bare false x vs n o = refl

run_grows : {V E S R A : Type 0} (H : BudgetRunner V E S R) (G : Runner V E S R) (more : List V) → ((c : S) (n : ℕ) (vs : List V) → Grows more (without_fuel (H c n vs)) (G c (vs ++ more)))
    → (p : Plan V E S R A) (n : ℕ) (vs : List V) → Grows more (without_fuel (budget_run H p n vs)) (run G p (vs ++ more))
run_grows H G more h (done a) n vs = (refl, refl, refl)
run_grows H G more h (act x p) n vs = let o = budget_run H p n vs in keeps_after more (x ∷ []) o.trace o.end o.left (run G p (vs ++ more)) (run_grows H G more h p n vs)
run_grows H G more h (ask f w p) n [] = ((run G (ask f w p) more).trace, refl)
run_grows H G more h (ask f w p) n (v ∷ vs) =
    let o = budget_run H (p v) n vs in
    subst (λ q. Grows more q (answered (f v) (w v) (vs ++ more) (run G (p v) (vs ++ more)))) (sym (answer_bare (f v) (w v) vs n o))
    (keeps_answered more (f v) (w v) vs (without_fuel o) (run G (p v) (vs ++ more)) (run_grows H G more h (p v) n vs))
run_grows H G more h (call c p) n vs =
    let o = H c n vs in
    subst (λ q. Grows more q (joined (G c (vs ++ more)) (λ r ws. run G (p r) ws))) (sym (on_bare o.trace o.end o.left o.fuel (λ r ws m. budget_run H (p r) m ws)))
    (keeps_joined more o.trace o.end o.left (G c (vs ++ more)) (λ r ws. without_fuel (budget_run H (p r) o.fuel ws)) (λ r ws. run G (p r) ws) (h c n vs) (λ r ws. run_grows H G more h (p r) o.fuel ws))

within_grows : {V E S R : Type 0} (table : S → Plan V E S R R) (more : List V) (d : ℕ) (c : S) (n : ℕ) (vs : List V) → Grows more (without_fuel (budget_within table d c n vs)) (runner table d c (vs ++ more))
within_grows table more zero c n vs = ((runner table zero c (vs ++ more)).trace, refl)
within_grows table more (suc d) c zero vs = ((runner table (suc d) c (vs ++ more)).trace, refl)
within_grows table more (suc d) c (suc n) vs = run_grows (budget_within table d) (runner table d) more (λ e m ws. within_grows table more d e m ws) (table c) n vs

-- ---- what is run within a depth needs some budget

-- With k units and any number more, F keeps the run with this trace, end and answers left; where that ended, the further units are left.
abbrev Affords : {V E A : Type 0} → List V → List E → End A → List V → (ℕ → BudgetRun V E A) → ℕ → Type 0
Affords more t (ended a) vs F k = (m j : ℕ) → m ≡ k + j → F m ≡ record { trace = t; end = ended a; left = vs ++ more; fuel = j }
Affords {E = E} more t cut vs F k = (m j : ℕ) → m ≡ k + j → (u : List E) × ((F m).trace ≡ t ++ u)
Affords more t ill_typed vs F k = (m j : ℕ) → m ≡ k + j → ((F m).trace ≡ t) × ((F m).end ≡ ill_typed) × ((F m).left ≡ vs ++ more)

-- the same of a run, whatever answers there are more
abbrev Affordable : {V E A : Type 0} → Outcome V E A → (List V → ℕ → BudgetRun V E A) → Type 0
Affordable {V = V} o F = (k : ℕ) × ((more : List V) → Affords more o.trace o.end o.left (F more) k)

-- behind a trace, and k units later
afford_behind : {V E A : Type 0} (more : List V) (t s : List E) (e : End A) (vs : List V) (F G : ℕ → BudgetRun V E A) (k n : ℕ) → ((m j : ℕ) → m ≡ (k + n) + j → G m ≡ budget_after t (F (n + j)))
    → Affords more s e vs F n → Affords more (t ++ s) e vs G (k + n)
afford_behind more t s (ended a) vs F G k n i h = λ m j e. i m j e ∙ ap (budget_after t) (h (n + j) j refl)
afford_behind more t s cut vs F G k n i h = λ m j e. let d = h (n + j) j refl in (d.0, ap (λ o. o.trace) (i m j e) ∙ ap (λ w. t ++ w) d.1 ∙ sym (append_assoc t s d.0))
afford_behind more t s ill_typed vs F G k n i h = λ m j e.
    let d = h (n + j) j refl in
    (ap (λ o. o.trace) (i m j e) ∙ ap (λ w. t ++ w) d.0, ap (λ o. o.end) (i m j e) ∙ d.1, ap (λ o. o.left) (i m j e) ∙ d.2)

afford_after : {V E A : Type 0} (more : List V) (t s : List E) (e : End A) (vs : List V) (F : ℕ → BudgetRun V E A) (k : ℕ) → Affords more s e vs F k → Affords more (t ++ s) e vs (λ m. budget_after t (F m)) k
afford_after more t s (ended a) vs F k h = λ m j i. ap (budget_after t) (h m j i)
afford_after more t s cut vs F k h = λ m j i. let d = h m j i in (d.0, ap (λ w. t ++ w) d.1 ∙ sym (append_assoc t s d.0))
afford_after more t s ill_typed vs F k h = λ m j i. let d = h m j i in (ap (λ w. t ++ w) d.0, d.1, d.2)

afford_answered : {V E A : Type 0} (more : List V) (b : Bool) (x : E) (vs : List V) (o : Outcome V E A) (F : ℕ → BudgetRun V E A) (k : ℕ) → Affords more o.trace o.end o.left F k
    → Affords more (answered b x vs o).trace (answered b x vs o).end (answered b x vs o).left (λ m. budget_answer b x (vs ++ more) m (F m)) k
afford_answered more true x vs o F k h = afford_after more (x ∷ []) o.trace o.end o.left F k h
afford_answered more false x vs o F k h = λ m j i. (refl, refl, refl)

on_front : {V E A B : Type 0} (t u v : List E) (e : End A) (vs : List V) (n : ℕ) (k : A → List V → ℕ → BudgetRun V E B) → t ≡ u ++ v → (w : List E) × ((budget_on t e vs n k).trace ≡ u ++ w)
on_front t u v (ended a) vs n k i = (v ++ (k a vs n).trace, ap (λ w. w ++ (k a vs n).trace) i ∙ append_assoc u v (k a vs n).trace)
on_front t u v cut vs n k i = (v, i)
on_front t u v ill_typed vs n k i = (v, i)

-- a call, and what its answer leads to
afford_on : {V E A B : Type 0} (t : List E) (e : End A) (vs : List V) (F : List V → ℕ → BudgetRun V E A) (k : ℕ) → ((more : List V) → Affords more t e vs (F more) k)
    → (next : A → List V → Outcome V E B) (later : A → List V → ℕ → BudgetRun V E B) → ((a : A) (ws : List V) → Affordable (next a ws) (λ more m. later a (ws ++ more) m))
    → Affordable (goes_on t e vs next) (λ more m. budget_on (F more m).trace (F more m).end (F more m).left (F more m).fuel later)
afford_on t (ended a) vs F k h next later g =
    let d = g a vs in (
      k + d.0,
      λ more. afford_behind more t (next a vs).trace (next a vs).end (next a vs).left (λ m. later a (vs ++ more) m) (λ m. budget_on (F more m).trace (F more m).end (F more m).left (F more m).fuel later) k d.0
          (λ m j i. ap (λ o. budget_on o.trace o.end o.left o.fuel later) (h more m (d.0 + j) (omega (arith, i)))) (d.1 more),
    )
afford_on t cut vs F k h next later g = (k, λ more m j i. let d = h more m j i in on_front (F more m).trace t d.0 (F more m).end (F more m).left (F more m).fuel later d.1)
afford_on t ill_typed vs F k h next later g = (
  k,
  λ more m j i.
      let d = h more m j i in
      let o = F more m in
      let e = ap (λ x. budget_on o.trace x o.left o.fuel later) d.1 in
      (ap (λ x. x.trace) e ∙ d.0, ap (λ x. x.end) e, ap (λ x. x.left) e ∙ d.2),
)

run_affords : {V E S R A : Type 0} (H : Runner V E S R) (G : BudgetRunner V E S R) → ((c : S) (vs : List V) → Affordable (H c vs) (λ more m. G c m (vs ++ more)))
    → (p : Plan V E S R A) (vs : List V) → Affordable (run H p vs) (λ more m. budget_run G p m (vs ++ more))
run_affords H G h (done a) vs = (0, λ more m j i. let d : m ≡ j = omega (arith, i) in ap (λ x. budget_run G (done a) x (vs ++ more)) d)
run_affords H G h (act x p) vs = let d = run_affords H G h p vs in (d.0, λ more. afford_after more (x ∷ []) (run H p vs).trace (run H p vs).end (run H p vs).left (λ m. budget_run G p m (vs ++ more)) d.0 (d.1 more))
run_affords H G h (ask f s p) [] = (0, λ more m j i. ((budget_run G (ask f s p) m more).trace, refl))
run_affords H G h (ask f s p) (v ∷ vs) = let d = run_affords H G h (p v) vs in (d.0, λ more. afford_answered more (f v) (s v) vs (run H (p v) vs) (λ m. budget_run G (p v) m (vs ++ more)) d.0 (d.1 more))
run_affords H G h (call c p) vs =
    let d = h c vs in
    afford_on (H c vs).trace (H c vs).end (H c vs).left (λ more m. G c m (vs ++ more)) d.0 d.1 (λ r ws. run H (p r) ws) (λ r ws m. budget_run G (p r) m ws) (λ r ws. run_affords H G h (p r) ws)

-- a unit for the call itself
afford_call : {V E A : Type 0} (more : List V) (t : List E) (e : End A) (vs : List V) (F G : ℕ → BudgetRun V E A) (k : ℕ) → ((m : ℕ) → G (suc m) ≡ F m) → Affords more t e vs F k → Affords more t e vs G (suc k)
afford_call more t (ended a) vs F G k i h = λ m j e. let d : m ≡ suc (k + j) = omega (arith, e) in ap G d ∙ i (k + j) ∙ h (k + j) j refl
afford_call more t cut vs F G k i h = λ m j e. let d : m ≡ suc (k + j) = omega (arith, e) in let g = h (k + j) j refl in (g.0, ap (λ x. (G x).trace) d ∙ ap (λ o. o.trace) (i (k + j)) ∙ g.1)
afford_call more t ill_typed vs F G k i h = λ m j e.
    let d : m ≡ suc (k + j) = omega (arith, e) in
    let g = h (k + j) j refl in
    let q = ap G d ∙ i (k + j) in
    (ap (λ o. o.trace) q ∙ g.0, ap (λ o. o.end) q ∙ g.1, ap (λ o. o.left) q ∙ g.2)

runner_affords : {V E S R : Type 0} (table : S → Plan V E S R R) (n : ℕ) (c : S) (vs : List V) → Affordable (runner table n c vs) (λ more m. budget_runner table c m (vs ++ more))
runner_affords table zero c vs = (0, λ more m j i. ((budget_runner table c m (vs ++ more)).trace, refl))
runner_affords table (suc n) c vs =
    let d = run_affords (runner table n) (budget_runner table) (runner_affords table n) (table c) vs in
    let o = run (runner table n) (table c) vs in
    (suc d.0, λ more. afford_call more o.trace o.end o.left (λ m. budget_run (budget_runner table) (table c) m (vs ++ more)) (λ m. budget_runner table c m (vs ++ more)) d.0 (λ m. spends_its_budget.call table c m (vs ++ more)) (d.1 more))

kept : {V E A : Type 0} (more : List V) (t : List E) (e : End A) (vs : List V) (F : ℕ → BudgetRun V E A) (k : ℕ) → Affords more t e vs F k → Keeps more t e vs (without_fuel (F k))
kept more t (ended a) vs F k h = let q = h k 0 (omega arith) in (ap (λ o. o.trace) q, ap (λ o. o.end) q, ap (λ o. o.left) q)
kept more t cut vs F k h = h k 0 (omega arith)
kept more t ill_typed vs F k h = h k 0 (omega arith)

pub fuel_readings_agree : {V E S R : Type 0} → FuelReadingsAgree V E S R
fuel_readings_agree = record {
  as_depth = λ table n c vs more. within_grows table more n c n vs;
  as_budget = λ table n c vs.
      let d = runner_affords table n c vs in
      let o = runner table n c vs in
      (d.0, λ more. kept more o.trace o.end o.left (λ m. budget_runner table c m (vs ++ more)) d.0 (d.1 more));
}
