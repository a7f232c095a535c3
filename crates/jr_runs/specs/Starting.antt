-- On what a method or constructor may be run: a receiver of its class or a subclass, and arguments
-- of its types.
use Rattle.std.specs.Prelude.{◌≡◌, List, [], ◌∷◌, Option, Some, None, IsTrue}
use Rattle.jr_runs.specs.Keys.{Keys}
use Rattle.jr_runs.specs.Values.{Value, null, Ty}
use Rattle.jr_runs.specs.Rows.{Rows}
use Rattle.jr_runs.specs.Fitting.{fits, is_instance}
use Rattle.jr_runs.specs.Running.{Start, of_method, of_constructor}

-- A static method has no receiver: null stands for it.
abbrev pub IsReceiver : {K : Keys} → Rows K → Option K.class → Value K → Type 0
IsReceiver R None me = me ≡ null
IsReceiver R (Some c) me = IsTrue (is_instance R c me)

-- one argument for each type
abbrev pub ArgsFit : {K : Keys} → Rows K → List (Ty K) → List (Value K) → Type 0
ArgsFit R [] [] = Unit {0}
ArgsFit R [] (v ∷ vs) = ⊥
ArgsFit R (T ∷ Ts) [] = ⊥
ArgsFit R (T ∷ Ts) (v ∷ vs) = IsTrue (fits R T v) × ArgsFit R Ts vs

abbrev pub IsStart : {K : Keys} → Rows K → Start K → Type 0
IsStart R (of_method m me args) =
    IsTrue (R.has_method m) × IsReceiver R (R.owner m) me × ArgsFit R (R.params m) args
IsStart R (of_constructor k me args) = IsTrue (R.has_constructor k)
    × IsTrue (is_instance R (R.constructor_class k) me) × ArgsFit R (R.constructor_params k) args
