-- Small programs to run. Keys and places are numbers.
use Rattle.std.proofs.Common.{ℕ, zero, suc, Bool, true, ◌&&◌, ◌||◌, List, [], ◌∷◌, ℤ, pos, Option, Some, None, nat_eq}
use Rattle.jr_plans.specs.Run.{End, ended, cut, ill_typed}
use Rattle.jr_runs.specs.Keys.{Keys, keys_of}
use Rattle.jr_runs.specs.Values.{Value, int, object, Ty, int_type, boolean_type, reference}
use Rattle.jr_runs.specs.Actions.{FieldKind, plain, volatile, final, part, Action, load, store, Trace}
use Rattle.jr_runs.specs.Rows.{Rows}
use Rattle.jr_runs.specs.Core as core
use Rattle.jr_runs.specs.Core.{Arithmetic, Operator, arithmetic, Exp, literal, this, read, assign, binary, static_call, Target, local, static_field, field_of, Exps, Stmt, eval, return, Stmts, Code, Method, written, Program}
use Rattle.jr_runs.specs.Arithmetic.{Out}
use Rattle.jr_runs.specs.Evaluation.{Flow}
use Rattle.jr_runs.specs.Running.{Start, of_method, actions_of, Ending, ending_of, plain_run}

abbrev pub K : Keys
K = keys_of ℕ ℕ ℕ ℕ ℕ

-- classes: 0 Object, 1 String, 2 Class, 3 Thread, 4 A, 5 B extends A
abbrev pub below : ℕ → ℕ → Bool
below c d = nat_eq c d || nat_eq d 0 || (nat_eq c 5 && nat_eq d 4)

-- fields: 0 int, 1 volatile int, 2 final int, 3 of class A, 4 boolean, 5 static int, 6 static volatile int, 7 int
abbrev pub kind_of_field : ℕ → FieldKind
kind_of_field (suc zero) = volatile
kind_of_field (suc (suc zero)) = final
kind_of_field (suc (suc (suc (suc (suc (suc zero)))))) = volatile
kind_of_field f = plain

abbrev pub type_of_field : ℕ → Ty K
type_of_field (suc (suc (suc zero))) = reference 4
type_of_field (suc (suc (suc (suc zero)))) = boolean_type
type_of_field f = int_type

-- Method 1 of class A is overridden by method 2 of class B. Others are private, static or called by `super`.
abbrev pub dispatch_one : ℕ → ℕ → Option ℕ
dispatch_one (suc (suc (suc (suc zero)))) (suc zero) = Some 1
dispatch_one (suc (suc (suc (suc (suc zero))))) (suc zero) = Some 2
dispatch_one c m = None

abbrev pub rows : Rows K
rows = record {
  same_class = nat_eq;
  is_subclass = below;
  text_class = 1;
  class_class = 2;
  field_kind = kind_of_field;
  field_type = type_of_field;
  dispatch = dispatch_one;
  has_method = λ m. true;
  owner = λ m. None;
  params = λ m. [];
  result = λ m. None;
  has_constructor = λ k. true;
  constructor_class = λ k. 4;
  constructor_params = λ k. [];
}

abbrev pub listed : List (Stmt K) → Stmts K
listed [] = core.Stmts.end
listed (s ∷ b) = core.Stmts.more s (listed b)

abbrev pub code : ℕ → List (Stmt K) → Code K
code n b = record { params = n; body = listed b }

abbrev pub method_at : List (Method K) → ℕ → Method K
method_at [] n = written (code 0 [])
method_at (m ∷ ms) zero = m
method_at (m ∷ ms) (suc n) = method_at ms n

abbrev pub code_at : List (Code K) → ℕ → Code K
code_at [] n = code 0 []
code_at (c ∷ cs) zero = c
code_at (c ∷ cs) (suc n) = code_at cs n

-- methods 0, 1, .. and constructors 0, 1, ..
abbrev pub program : List (Method K) → List (Code K) → Program K
program ms cs = record { rows = rows; method = method_at ms; constructor = code_at cs }

abbrev pub end_of : End (Out (Flow K)) → End (Ending K)
end_of (ended o) = ended (ending_of o)
end_of cut = cut
end_of ill_typed = ill_typed

-- the actions of a run, and its end
abbrev pub shown : Program K → Start K → List (Value K) → ℕ → Trace K × End (Ending K)
shown P c answers fuel = let o = plain_run P c answers fuel in (actions_of o.trace, end_of o.end)

-- an object of class A, and one of class B
abbrev pub a1 : Value K
a1 = object 1 4

abbrev pub b2 : Value K
b2 = object 2 5

abbrev pub number : ℕ → Value K
number n = int (pos n)

-- `return e;` in a method of a1 with these arguments, with enough fuel
abbrev pub value_of : Exp K → List (Value K) → List (Value K) → Trace K × End (Ending K)
value_of e args answers = shown (program (written (code 3 (return None e ∷ [])) ∷ []) []) (of_method 0 a1 args) answers 9

-- a body in a method of a1, with enough fuel
abbrev pub run_body : List (Stmt K) → List (Value K) → List (Value K) → Trace K × End (Ending K)
run_body b args answers = shown (program (written (code 3 b) ∷ []) []) (of_method 0 a1 args) answers 9

abbrev pub num : ℤ → Exp K
num z = literal None (int z)

abbrev pub var : ℕ → Exp K
var n = read None (local None n)

abbrev pub my : ℕ → Target K
my f = field_of None (this None) f

abbrev pub get : ℕ → Exp K
get f = read None (my f)

abbrev pub get_of : Exp K → ℕ → Exp K
get_of e f = read None (field_of None e f)

abbrev pub put : ℕ → Exp K → Stmt K
put f e = eval None (assign None (my f) e)

abbrev pub calc : Arithmetic → Exp K → Exp K → Exp K
calc op a b = binary None (arithmetic op) a b

abbrev pub args_of : List (Exp K) → Exps K
args_of [] = core.Exps.end
args_of (e ∷ es) = core.Exps.more e (args_of es)

-- accesses of a1's fields
abbrev pub loaded : ℕ → Value K → Action K
loaded f v = load (kind_of_field f) (part a1 f) v

abbrev pub stored : ℕ → Value K → Action K
stored f v = store (kind_of_field f) (part a1 f) v
