-- Runs that are cut in each construct, by answers and by fuel, as theorems by computation: what was done before the cut, in the
-- order of JLS 15.7, and nothing behind it. No machine shows such runs: the traces are read off the Java specification.
use Rattle.std.proofs.Common.{◌≡◌, true, false, List, [], ◌∷◌, pos, None, refl}
use Rattle.jr_plans.specs.Run.{cut}
use Rattle.jr_runs.specs.Values.{Value, truth}
use Rattle.jr_runs.specs.Actions.{Trace, enter}
use Rattle.jr_runs.specs.Actions as actions
use Rattle.jr_runs.specs.Core.{add, minus, post_increment, Exp, literal, this, assign, compound, bump, signed, both, either, cast, static_call, instance_call, super_call, create, super_constructor, field_of, Stmt, declare, eval, branch, loop, return, block, sync, empty, written}
use Rattle.jr_runs.specs.Running.{of_method}
use Rattle.jr_runs.proofs.Sample.{K, program, code, listed, shown, run_body, value_of, number, num, my, get, get_of, put, calc, args_of, loaded, stored, a1, b2}

-- an expression, and the answers that it gets
abbrev CutAt : Exp K → List (Value K) → Trace K → Type 0
CutAt e answers t = value_of e [] answers ≡ (t, cut)

-- a body, where a call has no fuel: method 1 is called by it
abbrev call : Exp K
call = static_call None 1 (args_of [])

abbrev NoFuel : List (Stmt K) → List (Value K) → Trace K → Type 0
NoFuel b answers t = shown (program (written (code 0 b) ∷ written (code 0 []) ∷ []) (code 0 [] ∷ [])) (of_method 0 a1 []) answers 1 ≡ (t, cut)

-- by answers: in front of the first operand, and between the two
left_operand : CutAt (calc add (get 0) (get 1)) [] []
left_operand = refl

right_operand : CutAt (calc add (get 0) (get 1)) (number 1 ∷ []) (loaded 0 (number 1) ∷ [])
right_operand = refl

sign_operand : CutAt (signed None minus (get 0)) [] []
sign_operand = refl

right_operand_of_and : CutAt (both None (get 4) (get 4)) (truth true ∷ []) (loaded 4 (truth true) ∷ [])
right_operand_of_and = refl

right_operand_of_or : CutAt (either None (get 4) (get 4)) (truth false ∷ []) (loaded 4 (truth false) ∷ [])
right_operand_of_or = refl

cast_operand : CutAt (cast None 5 (get 3)) [] []
cast_operand = refl

receiver_of_a_load : CutAt (get_of (get 3) 0) [] []
receiver_of_a_load = refl

load_behind_its_receiver : CutAt (get_of (get 3) 0) (a1 ∷ []) (loaded 3 a1 ∷ [])
load_behind_its_receiver = refl

right_side_of_a_store : CutAt (assign None (field_of None (get 3) 0) (get 1)) (a1 ∷ []) (loaded 3 a1 ∷ [])
right_side_of_a_store = refl

load_of_a_compound : CutAt (compound None add (my 0) (get 1)) [] []
load_of_a_compound = refl

right_side_of_a_compound : CutAt (compound None add (my 0) (get 1)) (number 1 ∷ []) (loaded 0 (number 1) ∷ [])
right_side_of_a_compound = refl

load_of_a_bump : CutAt (bump None post_increment (my 0)) [] []
load_of_a_bump = refl

target_of_a_call : CutAt (instance_call None (get 3) 1 (args_of (get 0 ∷ []))) [] []
target_of_a_call = refl

argument_of_a_call : CutAt (instance_call None (get 3) 1 (args_of (get 0 ∷ []))) (a1 ∷ []) (loaded 3 a1 ∷ [])
argument_of_a_call = refl

second_argument : CutAt (static_call None 1 (args_of (get 0 ∷ get 1 ∷ []))) (number 1 ∷ []) (loaded 0 (number 1) ∷ [])
second_argument = refl

argument_of_a_super_call : CutAt (super_call None (this None) 1 (args_of (get 0 ∷ []))) [] []
argument_of_a_super_call = refl

argument_of_an_allocation : CutAt (create None 5 0 (args_of (get 0 ∷ []))) (b2 ∷ []) (actions.create b2 ∷ [])
argument_of_an_allocation = refl

argument_of_a_super_constructor : CutAt (super_constructor None (this None) 0 (args_of (get 0 ∷ []))) [] []
argument_of_a_super_constructor = refl

initializer : run_body (declare None 0 (get 0) ∷ put 1 (num (pos 1)) ∷ []) [] [] ≡ ([], cut)
initializer = refl

second_statement : run_body (put 1 (num (pos 1)) ∷ put 0 (get 0) ∷ []) [] [] ≡ (stored 1 (number 1) ∷ [], cut)
second_statement = refl

condition : run_body (branch None (get 4) (put 0 (num (pos 1))) (empty None) ∷ []) [] [] ≡ ([], cut)
condition = refl

branch_behind_its_condition : run_body (branch None (get 4) (put 0 (get 0)) (empty None) ∷ []) [] (truth true ∷ []) ≡ (loaded 4 (truth true) ∷ [], cut)
branch_behind_its_condition = refl

condition_of_a_loop : run_body (loop None (get 4) (empty None) ∷ []) [] [] ≡ ([], cut)
condition_of_a_loop = refl

body_of_a_loop : run_body (loop None (get 4) (put 0 (get 0)) ∷ []) [] (truth true ∷ []) ≡ (loaded 4 (truth true) ∷ [], cut)
body_of_a_loop = refl

block_behind_its_first_statement : run_body (block None [] (listed (put 1 (num (pos 1)) ∷ put 0 (get 0) ∷ [])) ∷ []) [] [] ≡ (stored 1 (number 1) ∷ [], cut)
block_behind_its_first_statement = refl

lock : run_body (sync None None (get 3) (listed []) ∷ []) [] [] ≡ ([], cut)
lock = refl

-- by fuel: a call in each place
call_as_left_operand : NoFuel (return None (calc add call (get 0)) ∷ []) [] []
call_as_left_operand = refl

call_as_right_operand : NoFuel (return None (calc add (get 0) call) ∷ []) (number 1 ∷ []) (loaded 0 (number 1) ∷ [])
call_as_right_operand = refl

call_as_right_side : NoFuel (put 0 call ∷ []) [] []
call_as_right_side = refl

call_in_a_compound : NoFuel (eval None (compound None add (my 0) call) ∷ []) (number 1 ∷ []) (loaded 0 (number 1) ∷ [])
call_in_a_compound = refl

call_as_argument : NoFuel (eval None (static_call None 1 (args_of (get 0 ∷ call ∷ []))) ∷ []) (number 1 ∷ []) (loaded 0 (number 1) ∷ [])
call_as_argument = refl

call_behind_and : NoFuel (eval None (both None (get 4) call) ∷ []) (truth true ∷ []) (loaded 4 (truth true) ∷ [])
call_behind_and = refl

instance_call_without_fuel : NoFuel (eval None (instance_call None (get 3) 1 (args_of [])) ∷ []) (a1 ∷ []) (loaded 3 a1 ∷ [])
instance_call_without_fuel = refl

super_call_without_fuel : NoFuel (eval None (super_call None (this None) 1 (args_of [])) ∷ []) [] []
super_call_without_fuel = refl

super_constructor_without_fuel : NoFuel (eval None (super_constructor None (this None) 0 (args_of [])) ∷ []) [] []
super_constructor_without_fuel = refl

constructor_without_fuel : NoFuel (eval None (create None 5 0 (args_of [])) ∷ []) (b2 ∷ []) (actions.create b2 ∷ [])
constructor_without_fuel = refl

call_as_condition : NoFuel (branch None call (empty None) (empty None) ∷ []) [] []
call_as_condition = refl

loop_without_fuel : NoFuel (put 0 (num (pos 1)) ∷ loop None (literal None (truth true)) (empty None) ∷ []) [] (stored 0 (number 1) ∷ [])
loop_without_fuel = refl

call_in_a_block : NoFuel (block None [] (listed (put 0 (num (pos 1)) ∷ eval None call ∷ [])) ∷ []) [] (stored 0 (number 1) ∷ [])
call_in_a_block = refl

call_in_a_monitor : NoFuel (sync None None (this None) (listed (eval None call ∷ [])) ∷ []) [] (enter a1 ∷ [])
call_in_a_monitor = refl

call_as_initializer : NoFuel (declare None 0 call ∷ put 0 (num (pos 1)) ∷ []) [] []
call_as_initializer = refl

call_as_returned_value : NoFuel (return None call ∷ []) [] []
call_as_returned_value = refl
