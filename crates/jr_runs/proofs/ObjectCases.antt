-- Objects, constructors, dispatch and threads, as theorems by computation. Orders and values are what `java` shows; actions are
-- those of JLS 17.4.2, of allocation (JLS 15.9.4) and of `start` (JLS 17.2).
use Rattle.std.proofs.Common.{◌≡◌, ℕ, true, false, List, [], ◌∷◌, pos, None, Some, refl}
use Rattle.jr_plans.specs.Run.{ended, cut, ill_typed}
use Rattle.jr_plans.specs.Numbered.{Numbered}
use Rattle.jr_runs.specs.Values.{Value, null, truth, object}
use Rattle.jr_runs.specs.Actions.{plain, volatile, part, shared, Action, store, start, enter, exit, Event}
use Rattle.jr_runs.specs.Actions as actions
use Rattle.jr_runs.specs.Arithmetic.{null_reference, started_before}
use Rattle.jr_runs.specs.Core.{literal, this, read, assign, instance_call, super_call, static_call, create, super_constructor, static_field, field_of, eval, loop, return, sync, written, starts, Exp, Stmt, Code, Method, Program}
use Rattle.jr_runs.specs.Running.{of_method, of_constructor, gave, gave_nothing, threw, run_of}
use Rattle.jr_runs.proofs.Sample.{K, rows, kind_of_field, program, code, code_at, method_at, listed, shown, number, num, var, get, get_of, put, args_of, loaded, stored, a1, b2}

-- `super(args)`
abbrev parent : ℕ → List (Exp K) → Stmt K
parent k es = eval None (super_constructor None (this None) k (args_of es))

-- 0: `Object()`; 1: `A(int k) { f = k; }` in a class with `volatile int v = 3;`; 2: `B() { super(7); w = 1; }` in a class with `int w = 2;`
abbrev constructors : List (Code K)
constructors = code 0 [] ∷ code 1 (parent 0 [] ∷ put 1 (num (pos 3)) ∷ put 0 (var 0) ∷ []) ∷ code 0 (parent 1 (num (pos 7) ∷ []) ∷ put 7 (num (pos 2)) ∷ put 7 (num (pos 1)) ∷ []) ∷ []

abbrev field_stored : Value K → ℕ → Value K → Action K
field_stored o f v = store (kind_of_field f) (part o f) v

-- `new B()`: the superclass's constructor with its own initializers, then this class's initializers, then the body
constructor_runs_in_order : shown (program (written (code 0 (return None (create None 5 2 (args_of [])) ∷ [])) ∷ []) constructors) (of_method 0 a1 []) (b2 ∷ []) 9
    ≡ (actions.create b2 ∷ field_stored b2 1 (number 3) ∷ field_stored b2 0 (number 7) ∷ field_stored b2 7 (number 2) ∷ field_stored b2 7 (number 1) ∷ [], ended (gave b2))
constructor_runs_in_order = refl

-- the same constructor, run on an object that is there
constructor_runs_on_its_receiver : shown (program [] constructors) (of_constructor 1 a1 (number 9 ∷ [])) [] 9 ≡ (stored 1 (number 3) ∷ stored 0 (number 9) ∷ [], ended gave_nothing)
constructor_runs_on_its_receiver = refl

-- `new A(f)`: allocation in front of the argument
allocation_in_front_of_the_arguments : shown (program (written (code 0 (return None (create None 4 1 (args_of (get 0 ∷ []))) ∷ [])) ∷ []) constructors) (of_method 0 a1 []) (object 3 4 ∷ number 6 ∷ []) 9
    ≡ (actions.create (object 3 4) ∷ loaded 0 (number 6) ∷ field_stored (object 3 4) 1 (number 3) ∷ field_stored (object 3 4) 0 (number 6) ∷ [], ended (gave (object 3 4)))
allocation_in_front_of_the_arguments = refl

-- what is allocated is of just this class, and no answer but an object is one
allocated_subclass_is_ill_typed : shown (program (written (code 0 (return None (create None 4 1 (args_of (get 0 ∷ []))) ∷ [])) ∷ []) constructors) (of_method 0 a1 []) (b2 ∷ []) 9 ≡ ([], ill_typed)
allocated_subclass_is_ill_typed = refl

allocated_null_is_ill_typed : shown (program (written (code 0 (return None (create None 4 1 (args_of (get 0 ∷ []))) ∷ [])) ∷ []) constructors) (of_method 0 a1 []) (null ∷ []) 9 ≡ ([], ill_typed)
allocated_null_is_ill_typed = refl

-- cut at the allocation, and by fuel in front of the superclass's constructor
allocation_is_cut_by_answers : shown (program (written (code 0 (return None (create None 4 1 (args_of (get 0 ∷ []))) ∷ [])) ∷ []) constructors) (of_method 0 a1 []) [] 9 ≡ ([], cut)
allocation_is_cut_by_answers = refl

constructor_is_cut_by_fuel : shown (program (written (code 0 (return None (create None 5 2 (args_of [])) ∷ [])) ∷ []) constructors) (of_method 0 a1 []) (b2 ∷ []) 2 ≡ (actions.create b2 ∷ [], cut)
constructor_is_cut_by_fuel = refl

-- `class A { int m() { return 100; } private int q() { return 1; } }`, `class B extends A { int m() { return 200; } }`
abbrev methods : Method K → List (Method K)
methods first = first ∷ written (code 0 (return None (num (pos 100)) ∷ [])) ∷ written (code 0 (return None (num (pos 200)) ∷ [])) ∷ written (code 0 (return None (num (pos 1)) ∷ [])) ∷ []

-- `x.m()` with an object of A and of B in x
dispatch_finds_the_class's_own : shown (program (methods (written (code 1 (return None (instance_call None (var 0) 1 (args_of [])) ∷ [])))) []) (of_method 0 a1 (a1 ∷ [])) [] 9 ≡ ([], ended (gave (number 100)))
dispatch_finds_the_class's_own = refl

dispatch_finds_the_overriding_method : shown (program (methods (written (code 1 (return None (instance_call None (var 0) 1 (args_of [])) ∷ [])))) []) (of_method 0 a1 (b2 ∷ [])) [] 9 ≡ ([], ended (gave (number 200)))
dispatch_finds_the_overriding_method = refl

-- `super.m()` on an object of B, and `q()`, which is private
super_call_is_not_dispatched : shown (program (methods (written (code 0 (return None (super_call None (this None) 1 (args_of [])) ∷ [])))) []) (of_method 0 b2 []) [] 9 ≡ ([], ended (gave (number 100)))
super_call_is_not_dispatched = refl

private_method_is_not_dispatched : shown (program (methods (written (code 0 (return None (instance_call None (this None) 3 (args_of [])) ∷ [])))) []) (of_method 0 b2 []) [] 9 ≡ ([], ended (gave (number 1)))
private_method_is_not_dispatched = refl

-- a method's throw is its caller's
throw_goes_through_calls : shown (program (written (code 0 (sync None None (this None) (listed (eval None (static_call None 1 (args_of [])) ∷ [])) ∷ [])) ∷ written (code 0 (return None (get_of (literal None null) 0) ∷ [])) ∷ []) []) (of_method 0 a1 []) [] 9
    ≡ (enter a1 ∷ exit a1 ∷ [], ended (threw null_reference))
throw_goes_through_calls = refl

-- method 1 is `start` of Thread, and `x.start()` is called once and twice
abbrev start_it : Stmt K
start_it = eval None (instance_call None (var 0) 1 (args_of []))

abbrev starting : List (Stmt K) → Program K
starting b = record { rows = record rows { dispatch = λ c m. Some m }; method = method_at (written (code 1 b) ∷ starts ∷ []); constructor = code_at [] }

thread_starts : shown (starting (start_it ∷ [])) (of_method 0 null (object 9 3 ∷ [])) (truth false ∷ []) 9 ≡ (start (object 9 3) (truth false) ∷ [], ended gave_nothing)
thread_starts = refl

second_start_throws : shown (starting (start_it ∷ start_it ∷ put 0 (num (pos 1)) ∷ [])) (of_method 0 null (object 9 3 ∷ [])) (truth false ∷ truth true ∷ []) 9
    ≡ (start (object 9 3) (truth false) ∷ start (object 9 3) (truth true) ∷ [], ended (threw started_before))
second_start_throws = refl

start_is_cut_by_answers : shown (starting (start_it ∷ [])) (of_method 0 null (object 9 3 ∷ [])) [] 9 ≡ ([], cut)
start_is_cut_by_answers = refl

start_answers_a_boolean : shown (starting (start_it ∷ [])) (of_method 0 null (object 9 3 ∷ [])) (number 0 ∷ []) 9 ≡ ([], ill_typed)
start_answers_a_boolean = refl

-- Activations are numbered as they begin, and a loop's turn is none: `int m0() { f = 1; m1(); while (z) f = 2; m1(); }`
-- with `static void m1() { g = 3; }`. The places are 10, 11, 12 and 13.
abbrev put_at : ℕ → ℕ → ℕ → Stmt K
put_at at f n = eval None (assign None (static_field (Some at) f) (num (pos n)))

abbrev step : ℕ → ℕ → Action K → Numbered (Event K)
step n at x = record { activation = n; action = record { at = Some at; action = x } }

activations_are_numbered : (run_of (program (written (code 0 (put_at 10 5 1 ∷ eval None (static_call None 1 (args_of []))
    ∷ loop None (read None (field_of (Some 11) (this None) 4)) (put_at 12 5 2) ∷ eval None (static_call None 1 (args_of [])) ∷ [])) ∷ written (code 0 (put_at 13 6 3 ∷ [])) ∷ []) [])
    (of_method 0 a1 []) (truth true ∷ truth false ∷ []) 9).trace
    ≡ step 0 10 (store plain (shared 5) (number 1)) ∷ step 1 13 (store volatile (shared 6) (number 3)) ∷ step 0 11 (loaded 4 (truth true)) ∷ step 0 12 (store plain (shared 5) (number 2))
    ∷ step 0 11 (loaded 4 (truth false)) ∷ step 2 13 (store volatile (shared 6) (number 3)) ∷ []
activations_are_numbered = refl
