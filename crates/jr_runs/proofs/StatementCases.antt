-- What statements do, and where runs are cut, as theorems by computation. Where a monitor is left, how a loop turns and where a
-- throw comes are as `java` shows them; the traces of cut runs are those of JLS 14.19, 14.12 as far as they come.
use Rattle.std.proofs.Common.{◌≡◌, true, false, [], ◌∷◌, pos, None, refl}
use Rattle.jr_plans.specs.Run.{ended, cut, ill_typed}
use Rattle.jr_runs.specs.Values.{null, truth, text, class_object, int}
use Rattle.jr_runs.specs.Actions.{enter, exit}
use Rattle.jr_runs.specs.Arithmetic.{null_reference, zero_divisor}
use Rattle.jr_runs.specs.Core as core
use Rattle.jr_runs.specs.Core.{add, divide, less, equal, comparison, post_increment, literal, this, assign, bump, binary, static_call, local, declare, eval, branch, loop, return, return_nothing, block, sync, empty, written}
use Rattle.jr_runs.specs.Running.{of_method, gave, gave_nothing, threw}
use Rattle.jr_runs.proofs.Sample.{program, code, listed, shown, run_body, number, num, var, get, put, calc, args_of, loaded, stored, a1}

-- `synchronized (this) { f = 1; }`
monitor_is_left_at_the_end : run_body (sync None None (this None) (listed (put 0 (num (pos 1)) ∷ [])) ∷ []) [] [] ≡ (enter a1 ∷ stored 0 (number 1) ∷ exit a1 ∷ [], ended gave_nothing)
monitor_is_left_at_the_end = refl

-- `synchronized (this) { return f; }`: the value is there before the exit
monitor_is_left_behind_the_returned_value : run_body (sync None None (this None) (listed (return None (get 0) ∷ [])) ∷ put 1 (num (pos 1)) ∷ []) [] (number 4 ∷ []) ≡ (enter a1 ∷ loaded 0 (number 4) ∷ exit a1 ∷ [], ended (gave (number 4)))
monitor_is_left_behind_the_returned_value = refl

-- `synchronized (this) { f = 1 / 0; } f = 2;`
monitor_is_left_behind_a_throw : run_body (sync None None (this None) (listed (put 0 (calc divide (num (pos 1)) (num (pos 0))) ∷ [])) ∷ put 0 (num (pos 2)) ∷ []) [] [] ≡ (enter a1 ∷ exit a1 ∷ [], ended (threw zero_divisor))
monitor_is_left_behind_a_throw = refl

-- `synchronized (a) { f = 1; }` with null in a
lock_of_null_throws : run_body (sync None None (get 3) (listed (put 0 (num (pos 1)) ∷ [])) ∷ []) [] (null ∷ []) ≡ (loaded 3 null ∷ [], ended (threw null_reference))
lock_of_null_throws = refl

-- two monitors, of a string and of a Class object
monitors_are_left_inside_out : run_body (sync None None (literal None (text (120 ∷ []))) (listed (sync None None (literal None (class_object 4)) core.Stmts.end ∷ [])) ∷ []) [] []
    ≡ (enter (text (120 ∷ [])) ∷ enter (class_object 4) ∷ exit (class_object 4) ∷ exit (text (120 ∷ [])) ∷ [], ended gave_nothing)
monitors_are_left_inside_out = refl

-- a run that is cut in the block, by answers or by fuel, and one that ends there at an answer that doesn't fit: no exit
cut_by_answers_leaves_no_monitor : run_body (sync None None (this None) (listed (put 0 (get 1) ∷ [])) ∷ []) [] [] ≡ (enter a1 ∷ [], cut)
cut_by_answers_leaves_no_monitor = refl

cut_by_fuel_leaves_no_monitor : shown (program (written (code 0 (sync None None (this None) (listed (eval None (static_call None 1 (args_of [])) ∷ [])) ∷ [])) ∷ []) []) (of_method 0 a1 []) [] 1 ≡ (enter a1 ∷ [], cut)
cut_by_fuel_leaves_no_monitor = refl

ill_typed_leaves_no_monitor : run_body (sync None None (this None) (listed (put 0 (get 1) ∷ [])) ∷ []) [] (truth true ∷ []) ≡ (enter a1 ∷ [], ill_typed)
ill_typed_leaves_no_monitor = refl

-- `if (z) f = 1; else f = 2;` and without `else`
branch_at_true : run_body (branch None (get 4) (put 0 (num (pos 1))) (put 0 (num (pos 2))) ∷ []) [] (truth true ∷ []) ≡ (loaded 4 (truth true) ∷ stored 0 (number 1) ∷ [], ended gave_nothing)
branch_at_true = refl

branch_at_false : run_body (branch None (get 4) (put 0 (num (pos 1))) (put 0 (num (pos 2))) ∷ []) [] (truth false ∷ []) ≡ (loaded 4 (truth false) ∷ stored 0 (number 2) ∷ [], ended gave_nothing)
branch_at_false = refl

no_else_does_nothing : run_body (branch None (get 4) (put 0 (num (pos 1))) (empty None) ∷ []) [] (truth false ∷ []) ≡ (loaded 4 (truth false) ∷ [], ended gave_nothing)
no_else_does_nothing = refl

-- `int i = 0; int w = 0; while (i < 3) { w = w + i; i++; } return w;`
loop_turns : run_body (declare None 0 (num (pos 0)) ∷ declare None 1 (num (pos 0))
    ∷ loop None (binary None (comparison less) (var 0) (num (pos 3))) (block None [] (listed (eval None (assign None (local None 1) (calc add (var 1) (var 0))) ∷ eval None (bump None post_increment (local None 0)) ∷ [])))
    ∷ return None (var 1) ∷ []) [] [] ≡ ([], ended (gave (number 3)))
loop_turns = refl

-- `while (z) f = 1;`: the condition comes anew in each turn
condition_is_evaluated_in_each_turn : run_body (loop None (get 4) (put 0 (num (pos 1))) ∷ []) [] (truth true ∷ truth false ∷ []) ≡ (loaded 4 (truth true) ∷ stored 0 (number 1) ∷ loaded 4 (truth false) ∷ [], ended gave_nothing)
condition_is_evaluated_in_each_turn = refl

-- `while (true) f = 1;`: each turn takes fuel, the member's own run too
loop_is_cut_by_fuel : shown (program (written (code 0 (loop None (literal None (truth true)) (put 0 (num (pos 1))) ∷ [])) ∷ []) []) (of_method 0 a1 []) [] 3 ≡ (stored 0 (number 1) ∷ stored 0 (number 1) ∷ [], cut)
loop_is_cut_by_fuel = refl

loop_is_cut_by_answers : run_body (loop None (get 4) (put 0 (num (pos 1))) ∷ []) [] (truth true ∷ []) ≡ (loaded 4 (truth true) ∷ stored 0 (number 1) ∷ [], cut)
loop_is_cut_by_answers = refl

-- `while (true) synchronized (this) { return 1; }`
return_leaves_loop_and_monitor : run_body (loop None (literal None (truth true)) (sync None None (this None) (listed (return None (num (pos 1)) ∷ []))) ∷ put 0 (num (pos 2)) ∷ []) [] [] ≡ (enter a1 ∷ exit a1 ∷ [], ended (gave (number 1)))
return_leaves_loop_and_monitor = refl

-- `f = 1; return; f = 2;`
return_ends_the_list : run_body (put 0 (num (pos 1)) ∷ return_nothing None ∷ put 0 (num (pos 2)) ∷ []) [] [] ≡ (stored 0 (number 1) ∷ [], ended gave_nothing)
return_ends_the_list = refl

-- a throw ends the list
throw_ends_the_list : run_body (eval None (calc divide (num (pos 1)) (num (pos 0))) ∷ put 0 (num (pos 2)) ∷ []) [] [] ≡ ([], ended (threw zero_divisor))
throw_ends_the_list = refl

-- `int x = f; { int y = x; f = y; } ;`
blocks_and_declarations : run_body (declare None 0 (get 0) ∷ block None (1 ∷ []) (listed (declare None 1 (var 0) ∷ put 0 (var 1) ∷ [])) ∷ empty None ∷ []) [] (number 8 ∷ []) ≡ (loaded 0 (number 8) ∷ stored 0 (number 8) ∷ [], ended gave_nothing)
blocks_and_declarations = refl

-- no answers, no fuel
cut_at_a_load : run_body (return None (get 0) ∷ []) [] [] ≡ ([], cut)
cut_at_a_load = refl

cut_without_fuel : shown (program (written (code 0 (put 0 (num (pos 1)) ∷ [])) ∷ []) []) (of_method 0 a1 []) [] 0 ≡ ([], cut)
cut_without_fuel = refl

-- `m(); f = 1;` with fuel for the calling method alone, and with fuel for both
call_is_cut_by_fuel : shown (program (written (code 0 (eval None (static_call None 1 (args_of [])) ∷ put 0 (num (pos 1)) ∷ [])) ∷ []) []) (of_method 0 a1 []) [] 1 ≡ ([], cut)
call_is_cut_by_fuel = refl

call_has_fuel : shown (program (written (code 0 (eval None (static_call None 1 (args_of [])) ∷ put 0 (num (pos 1)) ∷ [])) ∷ []) []) (of_method 0 a1 []) [] 2 ≡ (stored 0 (number 1) ∷ [], ended gave_nothing)
call_has_fuel = refl

-- answers that don't fit: no int, an int of more than 32 bits, no boolean, an object of another class
no_int_is_ill_typed : run_body (put 1 (get 0) ∷ []) [] (truth true ∷ []) ≡ ([], ill_typed)
no_int_is_ill_typed = refl

long_int_is_ill_typed : run_body (put 1 (get 0) ∷ []) [] (int (pos 2147483648) ∷ []) ≡ ([], ill_typed)
long_int_is_ill_typed = refl

null_is_no_int : run_body (put 1 (get 0) ∷ []) [] (null ∷ []) ≡ ([], ill_typed)
null_is_no_int = refl

string_is_no_object_of_class_a : run_body (return None (get 3) ∷ []) [] (text [] ∷ []) ≡ ([], ill_typed)
string_is_no_object_of_class_a = refl
