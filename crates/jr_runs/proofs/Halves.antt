-- From calls that match to runs with answers and fuel.
use Rattle.std.proofs.Common.{◌≡◌, ℕ, suc, List, [], ◌∷◌, ◌++◌, length, Some, None, refl, sym, ap, ◌∙◌, subst}
use Rattle.jr_plans.specs.Reach.{at_fuel, anyhow}
use Rattle.jr_plans.specs.Follow.{CallBoth, AnsweredBoth, sides_at}
use Rattle.jr_plans.specs.Run.{runner}
use Rattle.jr_plans.specs.Linked.{RunsReach, ReachRuns}
use Rattle.jr_plans.proofs.Linking.{runs_reach, reach_runs}
use Rattle.jr_runs.specs.Keys.{Keys}
use Rattle.jr_runs.specs.Values.{Value}
use Rattle.jr_runs.specs.Actions.{Event, Trace}
use Rattle.jr_runs.specs.Arithmetic.{Out, value, thrown}
use Rattle.jr_runs.specs.Core.{Program}
use Rattle.jr_runs.specs.Evaluation.{Flow, goes_on, returns, Call, table}
use Rattle.jr_runs.specs.Running.{Start, of_method, of_constructor, call_of, actions_of, Ending, ending_of, Whole, Bounded}
use Rattle.jr_runs.specs.Starting.{IsStart}
use Rattle.jr_runs.specs.KeyMaps.{KeyMap, Undoes, trace_image, start_image, ending_image}
use Rattle.jr_runs.specs.Images.{Spots}
use Rattle.jr_runs.specs.Alike.{Alike}
use Rattle.jr_runs.specs.Pairs.{AnswerRel, Pair, Post}

module _ {K : Keys} where
  pub actions_append : (t u : List (Event K)) → actions_of (t ++ u) ≡ actions_of t ++ actions_of u
  actions_append [] u = refl
  actions_append (x ∷ t) u = ap (λ w. x.action ∷ w) (actions_append t u)

  pub actions_length : (t : List (Event K)) → length (actions_of t) ≡ length t
  actions_length [] = refl
  actions_length (x ∷ t) = ap suc (actions_length t)

  -- a list of actions that is cut in two is that of a list of events that is cut in two
  pub record Cut (t : List (Event K)) (u w : Trace K) : Type 0 where
    pub front : List (Event K)
    pub rest : List (Event K)
    pub is : t ≡ front ++ rest
    pub front_is : actions_of front ≡ u

  pub cut_events : (t : List (Event K)) (u w : Trace K) → actions_of t ≡ u ++ w → Cut t u w
  cut_events t [] w e = record { front = []; rest = t; is = refl; front_is = refl }
  cut_events [] (y ∷ u) w e = absurd (apart e)
    where
      apart : [] ≡ y ∷ (u ++ w) → ⊥
      apart i = cc
  cut_events (x ∷ t) (y ∷ u) w e =
      let h : x.action ≡ y = cc in
      let i : actions_of t ≡ u ++ w = cc in
      let d = cut_events t u w i in
      record { front = x ∷ d.front; rest = d.rest; is = ap (λ l. x ∷ l) d.is; front_is = (λ j. h j ∷ d.front_is j) }

  ending_rel : (r : KeyMap K) (o o' : Out (Flow K)) → AnswerRel r o o' → ending_of o' ≡ ending_image r (ending_of o)
  ending_rel r (value (goes_on l)) (value (goes_on l')) h = refl
  ending_rel r (value (returns (Some v))) (value (returns (Some v'))) h = rw h refl
  ending_rel r (value (returns None)) (value (returns None)) h = refl
  ending_rel r (value (returns (Some v))) (value (returns None)) h = absurd h
  ending_rel r (value (returns None)) (value (returns (Some v))) h = absurd h
  ending_rel r (value (goes_on l)) (value (returns (Some v'))) h = absurd h
  ending_rel r (value (returns (Some v))) (value (goes_on l')) h = absurd h
  ending_rel r (value (goes_on l)) (value (returns None)) h = refl
  ending_rel r (value (returns None)) (value (goes_on l')) h = refl
  ending_rel r (value f) (thrown g) h = absurd h
  ending_rel r (thrown f) (value g) h = absurd h
  ending_rel r (thrown f) (thrown g) h = rw h refl

  -- A whole run is one that can be reached, and the other way round.
  whole_reach : (P : Program K) (c : Start K) (t : Trace K) (e : Ending K) → Whole P c t e → (fuel : ℕ) × (o : Out (Flow K)) × (w : List (Event K)) × (at_fuel (table P) fuel).ends (call_of c) w o × (actions_of w ≡ t) × (ending_of o ≡ e)
  whole_reach P c t e h =
      let reach : RunsReach (Value K) (Event K) (Call K) (Out (Flow K)) = runs_reach in
      (h.fuel, h.out, (runner (table P) h.fuel (call_of c) h.answers).trace, reach.whole (table P) h.fuel (call_of c) h.answers h.out h.end_is, h.trace_is, h.ending_is)

  reach_whole : (P : Program K) (c : Start K) (w : List (Event K)) (o : Out (Flow K)) → (anyhow (table P)).ends (call_of c) w o → Whole P c (actions_of w) (ending_of o)
  reach_whole P c w o h =
      let back : ReachRuns (Value K) (Event K) (Call K) (Out (Flow K)) = reach_runs in
      let run = back.whole (table P) h.0 (call_of c) w o h.1 in
      record { answers = run.0; fuel = h.0; out = o; trace_is = ap actions_of run.1; end_is = run.2; ending_is = refl }

  bounded_reach : (P : Program K) (c : Start K) (t : Trace K) → Bounded P c t → (fuel : ℕ) × (w : List (Event K)) × (at_fuel (table P) fuel).begins (call_of c) w × (actions_of w ≡ t)
  bounded_reach P c t h =
      let reach : RunsReach (Value K) (Event K) (Call K) (Out (Flow K)) = runs_reach in
      let d = cut_events (runner (table P) h.fuel (call_of c) h.answers).trace t h.rest h.trace_is in
      (h.fuel, d.front, reach.front (table P) h.fuel (call_of c) h.answers d.front d.rest d.is, d.front_is)

  reach_bounded : (P : Program K) (c : Start K) (w : List (Event K)) → (anyhow (table P)).begins (call_of c) w → Bounded P c (actions_of w)
  reach_bounded P c w h =
      let back : ReachRuns (Value K) (Event K) (Call K) (Out (Flow K)) = reach_runs in
      let run = back.front (table P) h.0 (call_of c) w h.1 in
      record { answers = run.0; fuel = h.0; rest = actions_of run.1; trace_is = ap actions_of run.2 ∙ actions_append w run.1 }

-- W relates lists of events, V the actions of both.
module _ {K : Keys} (r s : KeyMap K) (undoes : Undoes r s) (n : ℕ) (W : List (Event K) → List (Event K) → Type 0) (V : Trace K → Trace K → Type 0)
    (same : (t u : List (Event K)) → W t u → V (trace_image r (actions_of t)) (actions_of u)) (P Q : Program K) (kinds : (f : K.field) → Q.rows.field_kind (r.field f) ≡ P.rows.field_kind f)
    (start_match : (c : Start K) → IsStart P.rows c → (fuel : ℕ) → CallBoth n W (sides_at (table P) (table Q) fuel) (AnswerRel r) (call_of c) (call_of (start_image r c))) where
  -- The programs are alike.
  pub alike : Alike r V n P Q
  alike = record {
    injective_on_classes = λ c d e. sym (undoes.class c) ∙ ap s.class e ∙ undoes.class d;
    injective_on_fields = λ f h e. sym (undoes.field f) ∙ ap s.field e ∙ undoes.field h;
    keeps_kinds = kinds;
    ended_of_new = λ c i t e w.
        let h = whole_reach Q (start_image r c) t e w in
        let g = (start_match c i h.0).back.ended h.2 h.1 h.3 in
        (actions_of g.0, ending_of g.1, reach_whole P c g.0 g.1 g.2, sym h.5 ∙ ending_rel r g.1 h.1 g.3, subst (λ z. V (trace_image r (actions_of g.0)) z) h.4 (same g.0 h.2 g.4));
    ended_of_old = λ c i u d w.
        let h = whole_reach P c u d w in
        let g = (start_match c i h.0).forth.ended h.2 h.1 h.3 in
        (actions_of g.0, subst (λ e. Whole Q (start_image r c) (actions_of g.0) e) (ending_rel r h.1 g.1 g.3 ∙ ap (ending_image r) h.5) (reach_whole Q (start_image r c) g.0 g.1 g.2), subst (λ z. V (trace_image r z) (actions_of g.0)) h.4 (same h.2 g.0 g.4));
    bounded_of_new = λ c i t w.
        let h = bounded_reach Q (start_image r c) t w in
        let g = (start_match c i h.0).back.begun h.1 h.2 in
        let e : actions_of (h.1 ++ g.0) ≡ t ++ actions_of g.0 = actions_append h.1 g.0 ∙ ap (λ z. z ++ actions_of g.0) h.3 in (
          actions_of g.0,
          actions_of g.1,
          rw (actions_length g.0) g.2,
          subst (λ z. Bounded Q (start_image r c) z) e (reach_bounded Q (start_image r c) (h.1 ++ g.0) (h.0, g.3)),
          reach_bounded P c g.1 g.4,
          subst (λ z. V (trace_image r (actions_of g.1)) z) e (same g.1 (h.1 ++ g.0) g.5),
        );
    bounded_of_old = λ c i u w.
        let h = bounded_reach P c u w in
        let g = (start_match c i h.0).forth.begun h.1 h.2 in
        let e : actions_of (h.1 ++ g.0) ≡ u ++ actions_of g.0 = actions_append h.1 g.0 ∙ ap (λ z. z ++ actions_of g.0) h.3 in (
          actions_of g.0,
          actions_of g.1,
          rw (actions_length g.0) g.2,
          subst (λ z. Bounded P c z) e (reach_bounded P c (h.1 ++ g.0) (h.0, g.3)),
          reach_bounded Q (start_image r c) g.1 g.4,
          subst (λ z. V (trace_image r z) (actions_of g.1)) e (same (h.1 ++ g.0) g.1 g.5),
        );
  }

-- by calls that match, wherever they are made
pub starts_match : {K : Keys} (r : KeyMap K) (Spot : Spots K) (n : ℕ) (W : List (Event K) → List (Event K) → Type 0) (P Q : Program K)
    → ((fuel : ℕ) → AnsweredBoth n W (Pair r P.rows Spot) (Post r P.rows Spot) (sides_at (table P) (table Q) fuel))
    → (c : Start K) → IsStart P.rows c → (fuel : ℕ) → CallBoth n W (sides_at (table P) (table Q) fuel) (AnswerRel r) (call_of c) (call_of (start_image r c))
starts_match r Spot n W P Q match (of_method m me args) i fuel = match fuel (call_of (of_method m me args)) (call_of (start_image r (of_method m me args))) (i.0, refl, refl, refl)
starts_match r Spot n W P Q match (of_constructor k me args) i fuel = match fuel (call_of (of_constructor k me args)) (call_of (start_image r (of_constructor k me args))) (i.0, refl, refl, refl)
