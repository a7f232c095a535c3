-- Calls are made on receivers and arguments that fit, and their answers fit.
use Rattle.std.specs.Prelude.{◌≡◌, ℕ, false, List, Option, Some, None, IsTrue}
use Rattle.jr_plans.specs.Safe.{IsSafeTable}
use Rattle.jr_runs.specs.Keys.{Keys}
use Rattle.jr_runs.specs.Values.{Value, Ty, boolean_type}
use Rattle.jr_runs.specs.Rows.{Rows}
use Rattle.jr_runs.specs.Fitting.{fits}
use Rattle.jr_runs.specs.Arithmetic.{Out, value, thrown}
use Rattle.jr_runs.specs.Core.{Exp, Stmt, Program}
use Rattle.jr_runs.specs.Evaluation.{Flow, goes_on, returns, Call, invoke, construct, turn}
use Rattle.jr_runs.specs.Evaluation.{local_at, table}
use Rattle.jr_runs.specs.Running.{Start, of_method, of_constructor, Ending, gave, gave_nothing}
use Rattle.jr_runs.specs.Running.{threw}
use Rattle.jr_runs.specs.Starting.{IsReceiver, IsStart}
use Rattle.jr_runs.specs.Typing.{type_of, HasType, StmtTyped, is_always}

-- each local that is set has a value of its type
abbrev pub LocalsFit : {K : Keys} → Rows K → List (ℕ × Ty K) → List (Value K) → Type 0
LocalsFit {K = K} R G l = (n : ℕ) (T : Ty K) → type_of G n ≡ Some T
    → IsTrue (fits R T (local_at l n))

-- a value where there is a result, and none where there is none
abbrev pub GivenFits : {K : Keys} → Rows K → Option (Ty K) → Option (Value K) → Type 0
GivenFits R (Some T) (Some v) = IsTrue (fits R T v)
GivenFits R None None = Unit {0}
GivenFits R (Some T) None = ⊥
GivenFits R None (Some v) = ⊥

-- M: may the code complete normally?
abbrev pub FlowFits : {K : Keys} → Rows K → List (ℕ × Ty K) → Option (Ty K) → Type 0
    → Flow K → Type 0
FlowFits R G T M (goes_on l) = LocalsFit R G l × M
FlowFits R G T M (returns v) = GivenFits R T v

-- a value, if it doesn't throw, of which Q holds
abbrev pub OutHas : {A : Type 0} → (A → Type 0) → Out A → Type 0
OutHas Q (value a) = Q a
OutHas Q (thrown f) = Unit {0}

-- how a turn of a loop is typed
pub record TurnTyped {K : Keys} (R : Rows K) (me : Value K) (c : Exp K) (b : Stmt K)
    (l : List (Value K)) : Type 0 where
  pub context : List (ℕ × Ty K)
  pub class : Option K.class
  pub result : Option (Ty K)
  pub behind : List (ℕ × Ty K)
  pub receiver : IsReceiver R class me
  pub condition : HasType R context class c (Some boolean_type)
  pub body : StmtTyped R context class result b behind
  pub locals : LocalsFit R context l

-- on a receiver of its class or a subclass, and arguments of its types
abbrev pub WellMade : {K : Keys} → Rows K → Call K → Type 0
WellMade R (invoke m me args) = IsStart R (of_method m me args)
WellMade R (construct k me args) = IsStart R (of_constructor k me args)
WellMade R (turn me c b l) = TurnTyped R me c b l

-- the value of a method that ended, if it isn't `void`, is of its result type
abbrev pub ResultFits : {K : Keys} → Rows K → Option (Ty K) → Flow K → Type 0
ResultFits R T (goes_on l) = T ≡ None
ResultFits R T (returns v) = GivenFits R T v

abbrev pub WellAnswered : {K : Keys} → Rows K → Call K → Out (Flow K) → Type 0
WellAnswered R (invoke m me args) o = OutHas (ResultFits R (R.result m)) o
WellAnswered R (construct k me args) o = OutHas (ResultFits R None) o
WellAnswered R (turn me c b l) o = (t : TurnTyped R me c b l)
    → OutHas (FlowFits R t.context t.result (is_always c ≡ false)) o

-- how a run of a method or constructor ends: by a throw, or with a value of the result's type, if
-- there is one
abbrev pub EndFits : {K : Keys} → Rows K → Start K → Ending K → Type 0
EndFits R c (threw f) = Unit {0}
EndFits R (of_method m me args) (gave v) = GivenFits R (R.result m) (Some v)
EndFits {K = K} R (of_method m me args) gave_nothing = GivenFits {K = K} R (R.result m) None
EndFits R (of_constructor k me args) (gave v) = ⊥
EndFits R (of_constructor k me args) gave_nothing = Unit {0}

-- In a well-typed program each call that is well made makes well-made calls, and its answer fits if
-- theirs do.
abbrev pub CallsAreWellMade : {K : Keys} → Program K → Type 0
CallsAreWellMade P = IsSafeTable (WellMade P.rows) (WellAnswered P.rows) (table P)
