-- When a run stops at an answer that doesn't fit.
use Rattle.std.specs.Prelude.{◌≡◌, ◌⊎◌, ℕ, Bool, false, List, ◌∷◌, ◌++◌, IsTrue}
use Rattle.jr_plans.specs.Run.{cut, ill_typed}
use Rattle.jr_runs.specs.Keys.{Keys}
use Rattle.jr_runs.specs.Values.{Value}
use Rattle.jr_runs.specs.Actions.{Event, Trace}
use Rattle.jr_runs.specs.Rows.{Rows}
use Rattle.jr_runs.specs.Fitting.{fits, is_new, is_truth}
use Rattle.jr_runs.specs.Core.{Program}
use Rattle.jr_runs.specs.Running.{Start, Ending, Whole, plain_run}
use Rattle.jr_runs.specs.Starting.{IsStart}
use Rattle.jr_runs.specs.TypedRuns.{EndFits, CallsAreWellMade}

-- What is asked for from outside: a value of a field's type, a new object of a class, or whether a
-- thread was started before.
abbrev pub IsAsked : {K : Keys} → Rows K → (Value K → Bool) → Type 0
IsAsked {K = K} R asked = ((f : K.field) × (asked ≡ fits R (R.field_type f)))
    ⊎ (((c : K.class) × (asked ≡ is_new R c)) ⊎ (asked ≡ is_truth))

-- Of the answers the run takes those before one that doesn't fit what is asked for there. With
-- these alone it makes the same actions, and waits; with an answer that fits it goes on.
pub record TakesMisfit {K : Keys} (P : Program K) (c : Start K) (answers : List (Value K))
    (fuel : ℕ) : Type 0 where
  pub before : List (Value K)
  pub misfit : Value K
  pub behind : List (Value K)
  pub are : answers ≡ before ++ misfit ∷ behind
  pub waits : (plain_run P c before fuel).end ≡ cut
  pub same : (plain_run P c before fuel).trace ≡ (plain_run P c answers fuel).trace
  pub asked : Value K → Bool
  pub what : IsAsked P.rows asked
  pub fails : asked misfit ≡ false
  pub goes_on : (v : Value K) (more : List (Value K)) → IsTrue (asked v) → (x : Event K)
      × (later : List (Event K)) × ((plain_run P c (before ++ v ∷ more) fuel).trace
      ≡ (plain_run P c answers fuel).trace ++ x ∷ later)

-- Calls are made on what fits, and what they answer fits; so does what a whole run on a receiver and
-- arguments that fit ends with. A run is cut as ill typed just by an answer from outside.
pub record RunsFit {K : Keys} (P : Program K) : Type 0 where
  pub calls : CallsAreWellMade P
  pub ends : (c : Start K) → IsStart P.rows c → (t : Trace K) (e : Ending K) → Whole P c t e
      → EndFits P.rows c e
  pub cut : (c : Start K) (answers : List (Value K)) (fuel : ℕ)
      → (plain_run P c answers fuel).end ≡ ill_typed → TakesMisfit P c answers fuel
