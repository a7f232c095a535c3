-- A run that asks for nothing is the only one.
use Rattle.std.proofs.Common.{◌≡◌, ℕ, ◌+◌, List, [], ◌∷◌, ◌++◌, refl, sym, ap, ◌∙◌, arith}
use Rattle.jr_plans.specs.Run.{End, ended, cut, ill_typed, Outcome, Keeps, runner}
use Rattle.jr_plans.proofs.Growth.{runs_grow}
use Rattle.jr_runs.specs.Keys.{Keys}
use Rattle.jr_runs.specs.Values.{Value}
use Rattle.jr_runs.specs.Actions.{Event, Trace}
use Rattle.jr_runs.specs.Arithmetic.{Out}
use Rattle.jr_runs.specs.Core.{Program}
use Rattle.jr_runs.specs.Evaluation.{Flow, table}
use Rattle.jr_runs.specs.Running.{Start, call_of, plain_run, actions_of, Ending, ending_of, Whole}

append_none : {X : Type 0} (xs : List X) → xs ++ [] ≡ xs
append_none [] = refl
append_none (x ∷ xs) = λ i. x ∷ append_none xs i

kept : {V E A : Type 0} (more : List V) (t : List E) (end : End A) (vs : List V) (o : Outcome V E A) (a : A) → end ≡ ended a → Keeps more t end vs o → (o.trace ≡ t) × (o.end ≡ ended a)
kept more t (ended b) vs o a is h = (h.0, h.1 ∙ is)
kept more t cut vs o a is h = absurd cc
kept more t ill_typed vs o a is h = absurd cc

module _ {K : Keys} (P : Program K) (c : Start K) where
  abbrev Ran : Type 0
  Ran = Outcome (Value K) (Event K) (Out (Flow K))

  ran : ℕ → List (Value K) → Ran
  ran n vs = runner (table P) n (call_of c) vs

  longer : (n : ℕ) (vs : List (Value K)) (k : ℕ) (more : List (Value K)) (out : Out (Flow K)) → (plain_run P c vs n).end ≡ ended out
      → ((plain_run P c (vs ++ more) (n + k)).trace ≡ (plain_run P c vs n).trace) × ((plain_run P c (vs ++ more) (n + k)).end ≡ ended out)
  longer n vs k more out is = kept more (plain_run P c vs n).trace (plain_run P c vs n).end (plain_run P c vs n).left (plain_run P c (vs ++ more) (n + k)) out is (runs_grow (table P) (call_of c) n k vs more)

  -- what ends without answers does the same with any
  pub one_run : (n : ℕ) (out : Out (Flow K)) → (plain_run P c [] n).end ≡ ended out → (other : Trace K) (end : Ending K) → Whole P c other end → (other ≡ actions_of (plain_run P c [] n).trace) × (end ≡ ending_of out)
  one_run n out is other end w =
      let first = longer n [] w.fuel w.answers out is in
      let second = longer w.fuel w.answers n [] w.out w.end_is in
      let sum : w.fuel + n ≡ n + w.fuel = omega arith in
      let same : plain_run P c (w.answers ++ []) (w.fuel + n) ≡ plain_run P c w.answers (n + w.fuel) = λ i. plain_run P c (append_none w.answers i) (sum i) in
      let traces = sym second.0 ∙ ap (λ (o : Ran). o.trace) same ∙ first.0 in
      let ends : ended w.out ≡ ended out = sym second.1 ∙ ap (λ (o : Ran). o.end) same ∙ first.1 in
      let outs : w.out ≡ out = cc in
      (sym w.trace_is ∙ ap actions_of traces, sym w.ending_is ∙ ap ending_of outs)
