-- Where a run of a plan is ill typed, it has taken an answer that doesn't fit; and a run that ended takes the same answers whatever
-- stands behind them.
use Rattle.std.proofs.Common.{◌≡◌, ℕ, zero, suc, List, [], ◌∷◌, ◌++◌, Bool, true, false, refl, sym, ap, subst, ◌∙◌}
use Rattle.std.specs.Prelude.{IsTrue}
use Rattle.std.proofs.lemmas.List.{append_assoc}
use Rattle.jr_plans.specs.Plan.{Plan, done, act, ask, call}
use Rattle.jr_plans.specs.Run.{End, ended, cut, ill_typed, Outcome, after, goes_on, joined, answered, Runner, run, runner}
use Rattle.jr_runs.specs.Keys.{Keys}
use Rattle.jr_runs.specs.Values.{Value}
use Rattle.jr_runs.specs.Actions.{Event}
use Rattle.jr_runs.specs.Arithmetic.{Out}
use Rattle.jr_runs.specs.Core.{Program}
use Rattle.jr_runs.specs.Evaluation.{Flow, table}
use Rattle.jr_runs.specs.Running.{Start, call_of, plain_run}
use Rattle.jr_sound_code.specs.Misfits.{IsAsked, TakesMisfit}
use Rattle.jr_sound_code.proofs.Asking.{AsksFor, table_asks}

abbrev outcome : {V E A : Type 0} → List E → End A → List V → Outcome V E A
outcome t e vs = record { trace = t; end = e; left = vs }

-- with these answers f comes to the trace and stops at one that doesn't fit
record Stops {V E A : Type 0} (Q : (V → Bool) → Type 0) (f : List V → Outcome V E A) (vs : List V) (t : List E) (left : List V) : Type 0 where
  before : List V
  misfit : V
  are : vs ≡ before ++ misfit ∷ left
  waits : f before ≡ outcome t cut []
  asked : V → Bool
  what : Q asked
  fails : asked misfit ≡ false
  further : (v : V) (more : List V) → IsTrue (asked v) → (x : E) × (later : List E) × ((f (before ++ v ∷ more)).trace ≡ t ++ x ∷ later)

-- what an end says of the answers
abbrev Says : {V E A : Type 0} → ((V → Bool) → Type 0) → (List V → Outcome V E A) → List V → List E → End A → List V → Type 0
Says {V = V} Q f vs t (ended a) left = (used : List V) × (vs ≡ used ++ left) × ((more : List V) → f (used ++ more) ≡ outcome t (ended a) more)
Says Q f vs t cut left = Unit {0}
Says Q f vs t ill_typed left = Stops Q f vs t left

abbrev Consumes : {V E A : Type 0} → ((V → Bool) → Type 0) → (List V → Outcome V E A) → List V → Type 0
Consumes Q f vs = Says Q f vs (f vs).trace (f vs).end (f vs).left

module _ {V E S R : Type 0} (Q : (V → Bool) → Type 0) (H : Runner V E S R) (calls : (c : S) (vs : List V) → Consumes Q (H c) vs) where
  acted : {A : Type 0} (x : E) (f : List V → Outcome V E A) (vs : List V) (t : List E) (e : End A) (left : List V) → Says Q f vs t e left → Says Q (λ ws. after (x ∷ []) (f ws)) vs (x ∷ t) e left
  acted x f vs t (ended a) left (used, are, same) = (used, are, λ more. ap (after (x ∷ [])) (same more))
  acted x f vs t cut left h = tt
  acted x f vs t ill_typed left h = record {
    before = h.before;
    misfit = h.misfit;
    are = h.are;
    waits = ap (after (x ∷ [])) h.waits;
    asked = h.asked;
    what = h.what;
    fails = h.fails;
    further = λ v more fits. (let g = h.further v more fits in (g.0, g.1, ap (λ (ys : List E). x ∷ ys) g.2));
  }

  -- behind an answer that fits
  took : {A : Type 0} (fits : V → Bool) (shown : V → E) (p : V → Plan V E S R A) (v : V) → fits v ≡ true → (vs : List V) (t : List E) (e : End A) (left : List V) → Says Q (run H (p v)) vs t e left → Says Q (run H (ask fits shown p)) (v ∷ vs) (shown v ∷ t) e left
  took fits shown p v is vs t (ended a) left (used, are, same) =
      (v ∷ used, ap (λ (ws : List V). v ∷ ws) are, λ more. ap (λ (b : Bool). answered b (shown v) (used ++ more) (run H (p v) (used ++ more))) is ∙ ap (after (shown v ∷ [])) (same more))
  took fits shown p v is vs t cut left h = tt
  took fits shown p v is vs t ill_typed left h = record {
    before = v ∷ h.before;
    misfit = h.misfit;
    are = ap (λ (ws : List V). v ∷ ws) h.are;
    waits = ap (λ (b : Bool). answered b (shown v) h.before (run H (p v) h.before)) is ∙ ap (after (shown v ∷ [])) h.waits;
    asked = h.asked;
    what = h.what;
    fails = h.fails;
    further = λ w more ok. (let g = h.further w more ok in
        (g.0, g.1, ap (λ (b : Bool). (answered b (shown v) (h.before ++ w ∷ more) (run H (p v) (h.before ++ w ∷ more))).trace) is ∙ ap (λ (ys : List E). shown v ∷ ys) g.2));
  }

  asked_by : {A : Type 0} (fits : V → Bool) → Q fits → (shown : V → E) (p : V → Plan V E S R A) (v : V) (vs : List V) → Consumes Q (run H (p v)) vs → (b : Bool) → fits v ≡ b
      → Says Q (run H (ask fits shown p)) (v ∷ vs) (answered b (shown v) vs (run H (p v) vs)).trace (answered b (shown v) vs (run H (p v) vs)).end (answered b (shown v) vs (run H (p v) vs)).left
  asked_by fits is_asked shown p v vs h true is = took fits shown p v is vs (run H (p v) vs).trace (run H (p v) vs).end (run H (p v) vs).left h
  asked_by fits is_asked shown p v vs h false is = record {
    before = [];
    misfit = v;
    are = refl;
    waits = refl;
    asked = fits;
    what = is_asked;
    fails = is;
    further = λ w more ok. (shown w, (run H (p w) more).trace, ap (λ (b : Bool). (answered b (shown w) more (run H (p w) more)).trace) ok);
  }

  -- a trace that has more of it still has when something follows
  joined_further : {A B : Type 0} (k : A → List V → Outcome V E B) (t : List E) (x : E) (later : List E) (u : List E) (e : End A) (left : List V) → u ≡ t ++ x ∷ later → (y : E) × (more : List E) × ((goes_on u e left k).trace ≡ t ++ y ∷ more)
  joined_further k t x later u (ended a) left is = (x, later ++ (k a left).trace, ap (λ (z : List E). z ++ (k a left).trace) is ∙ append_assoc t (x ∷ later) (k a left).trace)
  joined_further k t x later u cut left is = (x, later, is)
  joined_further k t x later u ill_typed left is = (x, later, is)

  -- two pieces
  then_says : {A : Type 0} (c : S) (p : R → Plan V E S R A) (vs : List V) (t : List E) (r : R) (ws : List V) → Says Q (H c) vs t (ended r) ws → (u : List E) (e : End A) (left : List V) → Says Q (run H (p r)) ws u e left → Says Q (run H (call c p)) vs (t ++ u) e left
  then_says c p vs t r ws (used, are, same) u (ended a) left (others, rest, also) = (
    used ++ others,
    are ∙ ap (λ (zs : List V). used ++ zs) rest ∙ sym (append_assoc used others left),
    λ more. ap (λ (zs : List V). run H (call c p) zs) (append_assoc used others more) ∙ ap (λ (o : Outcome V E R). joined o (λ q zs. run H (p q) zs)) (same (others ++ more)) ∙ ap (after t) (also more),
  )
  then_says c p vs t r ws first u cut left h = tt
  then_says c p vs t r ws (used, are, same) u ill_typed left h = record {
    before = used ++ h.before;
    misfit = h.misfit;
    are = are ∙ ap (λ (zs : List V). used ++ zs) h.are ∙ sym (append_assoc used h.before (h.misfit ∷ left));
    waits = ap (λ (o : Outcome V E R). joined o (λ q zs. run H (p q) zs)) (same h.before) ∙ ap (after t) h.waits;
    asked = h.asked;
    what = h.what;
    fails = h.fails;
    further = λ v more ok. (let g = h.further v more ok in (
      g.0,
      g.1,
      ap (λ (zs : List V). (run H (call c p) zs).trace) (append_assoc used h.before (v ∷ more)) ∙ ap (λ (o : Outcome V E R). (joined o (λ q zs. run H (p q) zs)).trace) (same (h.before ++ v ∷ more)) ∙ ap (λ (z : List E). t ++ z) g.2
          ∙ sym (append_assoc t u (g.0 ∷ g.1)),
    ));
  }

  called : {A : Type 0} (c : S) (p : R → Plan V E S R A) (vs : List V) (t : List E) (e : End R) (left : List V) → Says Q (H c) vs t e left → ((r : R) (ws : List V) → Consumes Q (run H (p r)) ws)
      → Says Q (run H (call c p)) vs (goes_on t e left (λ r ws. run H (p r) ws)).trace (goes_on t e left (λ r ws. run H (p r) ws)).end (goes_on t e left (λ r ws. run H (p r) ws)).left
  called c p vs t (ended r) left h rest = then_says c p vs t r left h (run H (p r) left).trace (run H (p r) left).end (run H (p r) left).left (rest r left)
  called c p vs t cut left h rest = tt
  called c p vs t ill_typed left h rest = record {
    before = h.before;
    misfit = h.misfit;
    are = h.are;
    waits = ap (λ (o : Outcome V E R). joined o (λ q zs. run H (p q) zs)) h.waits;
    asked = h.asked;
    what = h.what;
    fails = h.fails;
    further = λ v more ok. (let g = h.further v more ok in
        joined_further (λ q zs. run H (p q) zs) t g.0 g.1 (H c (h.before ++ v ∷ more)).trace (H c (h.before ++ v ∷ more)).end (H c (h.before ++ v ∷ more)).left g.2);
  }

  run_consumes : {A : Type 0} (p : Plan V E S R A) → AsksFor Q p → (vs : List V) → Consumes Q (run H p) vs
  run_consumes (done a) asks vs = ([], refl, λ more. refl)
  run_consumes (act x p) asks vs = acted x (run H p) vs (run H p vs).trace (run H p vs).end (run H p vs).left (run_consumes p asks vs)
  run_consumes (ask fits shown p) asks [] = tt
  run_consumes (ask fits shown p) asks (v ∷ vs) = asked_by fits asks.0 shown p v vs (run_consumes (p v) (asks.1 v) vs) (fits v) refl
  run_consumes (call c p) asks vs = called c p vs (H c vs).trace (H c vs).end (H c vs).left (calls c vs) (λ r ws. run_consumes (p r) (asks r) ws)

runner_consumes : {V E S R : Type 0} (Q : (V → Bool) → Type 0) (plans : S → Plan V E S R R) → ((c : S) → AsksFor Q (plans c)) → (fuel : ℕ) (c : S) (vs : List V) → Consumes Q (runner plans fuel c) vs
runner_consumes Q plans asks zero c vs = tt
runner_consumes Q plans asks (suc n) c vs = run_consumes Q (runner plans n) (runner_consumes Q plans asks n) (plans c) (asks c) vs

-- a run that is ill typed has taken an answer that doesn't fit
pub takes_misfit : {K : Keys} (P : Program K) (c : Start K) (answers : List (Value K)) (fuel : ℕ) → (plain_run P c answers fuel).end ≡ ill_typed → TakesMisfit P c answers fuel
takes_misfit {K = K} P c answers fuel is = by (subst (λ (e : End (Out (Flow K))). Says (IsAsked P.rows) (runner (table P) fuel (call_of c)) answers (plain_run P c answers fuel).trace e (plain_run P c answers fuel).left) is (runner_consumes (IsAsked P.rows) (table P) (table_asks P) fuel (call_of c) answers))
  where
    by : Stops (IsAsked P.rows) (runner (table P) fuel (call_of c)) answers (plain_run P c answers fuel).trace (plain_run P c answers fuel).left → TakesMisfit P c answers fuel
    by h = record {
      before = h.before;
      misfit = h.misfit;
      behind = (plain_run P c answers fuel).left;
      are = h.are;
      waits = ap (λ (o : Outcome (Value K) (Event K) (Out (Flow K))). o.end) h.waits;
      same = ap (λ (o : Outcome (Value K) (Event K) (Out (Flow K))). o.trace) h.waits;
      asked = h.asked;
      what = h.what;
      fails = h.fails;
      goes_on = h.further;
    }
