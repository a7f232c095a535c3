-- Runs of a program: of a method or constructor, on a receiver, with arguments, answers and fuel.
use Rattle.std.specs.Prelude.{◌≡◌, ℕ, Bool, true, false, List, ◌++◌, map, Some, None}
use Rattle.jr_plans.specs.Run.{ended, Outcome, runner}
use Rattle.jr_plans.specs.Numbered.{NumberedRun, numbered_runner}
use Rattle.jr_runs.specs.Keys.{Keys}
use Rattle.jr_runs.specs.Values.{Value}
use Rattle.jr_runs.specs.Actions.{Event, Trace}
use Rattle.jr_runs.specs.Arithmetic.{Fault, Out, value, thrown}
use Rattle.jr_runs.specs.Core.{Program}
use Rattle.jr_runs.specs.Evaluation.{Flow, goes_on, returns, Call, invoke, construct, turn, table}

-- what is run
pub data Start (K : Keys) : Type 0 where
  of_method : (method : K.method) (me : Value K) (args : List (Value K)) → Start K
  of_constructor : (constructor : K.constructor) (me : Value K) (args : List (Value K)) → Start K

abbrev pub call_of : {K : Keys} → Start K → Call K
call_of (of_method m me args) = invoke m me args
call_of (of_constructor k me args) = construct k me args

-- Methods' and constructors' runs are activations. Loops turn in the one that they stand in. So do
-- field initializers, whose actions have places in the field.
abbrev pub is_activation : {K : Keys} → Call K → Bool
is_activation (invoke m me args) = true
is_activation (construct k me args) = true
is_activation (turn me c b l) = false

-- The run, each action with its place and the number of its activation. The first activation has
-- the number 0.
abbrev pub run_of : {K : Keys} → Program K → Start K → List (Value K) → ℕ
    → NumberedRun (Value K) (Event K) (Out (Flow K))
run_of P c answers fuel = numbered_runner is_activation (table P) fuel (call_of c) 0 0 answers

-- The same without numbers, by which runs are compared.
abbrev pub plain_run : {K : Keys} → Program K → Start K → List (Value K) → ℕ
    → Outcome (Value K) (Event K) (Out (Flow K))
plain_run P c answers fuel = runner (table P) fuel (call_of c) answers

abbrev pub actions_of : {K : Keys} → List (Event K) → Trace K
actions_of t = map (λ x. x.action) t

-- how a whole run ends: with a value, without one, or by a throw
pub data Ending (K : Keys) : Type 0 where
  gave : (value : Value K) → Ending K
  gave_nothing : Ending K
  threw : (fault : Fault) → Ending K

abbrev pub ending_of : {K : Keys} → Out (Flow K) → Ending K
ending_of (value (returns (Some v))) = gave v
ending_of (value (returns None)) = gave_nothing
ending_of (value (goes_on l)) = gave_nothing
ending_of (thrown f) = threw f

-- with some answers and fuel the program makes just these actions, and ends so
pub record Whole {K : Keys} (P : Program K) (c : Start K) (t : Trace K)
    (e : Ending K) : Type 0 where
  pub answers : List (Value K)
  pub fuel : ℕ
  pub out : Out (Flow K)
  pub trace_is : actions_of (plain_run P c answers fuel).trace ≡ t
  pub end_is : (plain_run P c answers fuel).end ≡ ended out
  pub ending_is : ending_of out ≡ e

-- a bounded run: with some answers and fuel the program makes actions that begin so
pub record Bounded {K : Keys} (P : Program K) (c : Start K) (t : Trace K) : Type 0 where
  pub answers : List (Value K)
  pub fuel : ℕ
  pub rest : Trace K
  pub trace_is : actions_of (plain_run P c answers fuel).trace ≡ t ++ rest
