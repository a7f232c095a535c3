-- In which order expressions do what they do, as theorems by computation. Orders are what `java` shows for the same
-- expression, where each operand leaves a mark; actions and kinds are those of JLS 17.4.2.
use Rattle.std.proofs.Common.{◌≡◌, true, false, [], ◌∷◌, pos, None, refl}
use Rattle.jr_plans.specs.Run.{ended}
use Rattle.jr_runs.specs.Values.{null, truth, text, class_object, object}
use Rattle.jr_runs.specs.Actions.{plain, volatile, final, part, shared, load, store}
use Rattle.jr_runs.specs.Arithmetic.{null_reference, failed_cast, zero_divisor}
use Rattle.jr_runs.specs.Core.{add, divide, less, equal, different, comparison, post_increment, pre_increment, literal, this, read, assign, compound, bump, binary, both, either, cast, static_call, instance_call, static_field, field_of, return, written}
use Rattle.jr_runs.specs.Running.{of_method, gave, threw}
use Rattle.jr_runs.proofs.Sample.{program, code, shown, value_of, number, num, var, my, get, get_of, calc, args_of, loaded, stored, a1, b2}

-- `f + v`: operands from left to right, a volatile load after a plain one
operands_from_left_to_right : value_of (calc add (get 0) (get 1)) [] (number 1 ∷ number 2 ∷ []) ≡ (loaded 0 (number 1) ∷ loaded 1 (number 2) ∷ [], ended (gave (number 3)))
operands_from_left_to_right = refl

-- `f / v` with 0 in v: both operands are evaluated before it throws
division_throws_behind_its_operands : value_of (calc divide (get 0) (get 1)) [] (number 1 ∷ number 0 ∷ []) ≡ (loaded 0 (number 1) ∷ loaded 1 (number 0) ∷ [], ended (threw zero_divisor))
division_throws_behind_its_operands = refl

-- `m(f, v)` with `static int m(int a, int b) { return a; }`
arguments_from_left_to_right : shown (program (written (code 0 (return None (static_call None 1 (args_of (get 0 ∷ get 1 ∷ []))) ∷ [])) ∷ written (code 2 (return None (var 0) ∷ [])) ∷ []) []) (of_method 0 a1 []) (number 1 ∷ number 2 ∷ []) 9
    ≡ (loaded 0 (number 1) ∷ loaded 1 (number 2) ∷ [], ended (gave (number 1)))
arguments_from_left_to_right = refl

-- `a.m(f)`: the target, then the argument, then the method's own load, of the target's field 0
target_before_arguments : shown (program (written (code 0 (return None (instance_call None (get 3) 3 (args_of (get 0 ∷ []))) ∷ [])) ∷ written (code 0 []) ∷ written (code 0 []) ∷ written (code 1 (return None (get 0) ∷ [])) ∷ []) [])
    (of_method 0 a1 []) (object 7 4 ∷ number 1 ∷ number 9 ∷ []) 9
    ≡ (loaded 3 (object 7 4) ∷ loaded 0 (number 1) ∷ load plain (part (object 7 4) 0) (number 9) ∷ [], ended (gave (number 9)))
target_before_arguments = refl

-- the same on null: the arguments are evaluated, and then it throws
null_target_throws_behind_the_arguments : value_of (instance_call None (get 3) 3 (args_of (get 0 ∷ []))) [] (null ∷ number 1 ∷ []) ≡ (loaded 3 null ∷ loaded 0 (number 1) ∷ [], ended (threw null_reference))
null_target_throws_behind_the_arguments = refl

-- `a.f` on null
load_of_null_throws : value_of (get_of (get 3) 0) [] (null ∷ []) ≡ (loaded 3 null ∷ [], ended (threw null_reference))
load_of_null_throws = refl

-- `a.f = v` on null: the right side is evaluated, and then it throws
store_to_null_throws_behind_the_right_side : value_of (assign None (field_of None (get 3) 0) (get 1)) [] (null ∷ number 5 ∷ []) ≡ (loaded 3 null ∷ loaded 1 (number 5) ∷ [], ended (threw null_reference))
store_to_null_throws_behind_the_right_side = refl

-- `f = v` has the value that it stores; the receiver is `this`
store_gives_its_value : value_of (assign None (my 0) (get 1)) [] (number 5 ∷ []) ≡ (loaded 1 (number 5) ∷ stored 0 (number 5) ∷ [], ended (gave (number 5)))
store_gives_its_value = refl

-- `a.f += v` on null: it throws in front of the right side
compound_on_null_throws_in_front_of_the_right_side : value_of (compound None add (field_of None (get 3) 0) (get 1)) [] (null ∷ []) ≡ (loaded 3 null ∷ [], ended (threw null_reference))
compound_on_null_throws_in_front_of_the_right_side = refl

-- `f += v`: load, right side, store
compound_loads_evaluates_stores : value_of (compound None add (my 0) (get 1)) [] (number 5 ∷ number 2 ∷ []) ≡ (loaded 0 (number 5) ∷ loaded 1 (number 2) ∷ stored 0 (number 7) ∷ [], ended (gave (number 7)))
compound_loads_evaluates_stores = refl

-- `f /= v` with 0 in v: no store
compound_division_throws_in_front_of_the_store : value_of (compound None divide (my 0) (get 1)) [] (number 5 ∷ number 0 ∷ []) ≡ (loaded 0 (number 5) ∷ loaded 1 (number 0) ∷ [], ended (threw zero_divisor))
compound_division_throws_in_front_of_the_store = refl

-- `v++` and `++v` on a volatile field; `a.f++` on null
post_increment_stores_the_new : value_of (bump None post_increment (my 1)) [] (number 5 ∷ []) ≡ (loaded 1 (number 5) ∷ stored 1 (number 6) ∷ [], ended (gave (number 5)))
post_increment_stores_the_new = refl

pre_increment_stores_the_new : value_of (bump None pre_increment (my 1)) [] (number 5 ∷ []) ≡ (loaded 1 (number 5) ∷ stored 1 (number 6) ∷ [], ended (gave (number 6)))
pre_increment_stores_the_new = refl

bump_on_null_throws : value_of (bump None post_increment (field_of None (get 3) 0)) [] (null ∷ []) ≡ (loaded 3 null ∷ [], ended (threw null_reference))
bump_on_null_throws = refl

-- static fields have no object; a final field's access is told as such
static_fields_have_no_object : value_of (assign None (static_field None 6) (read None (static_field None 5))) [] (number 3 ∷ []) ≡ (load plain (shared 5) (number 3) ∷ store volatile (shared 6) (number 3) ∷ [], ended (gave (number 3)))
static_fields_have_no_object = refl

final_load : value_of (get 2) [] (number 3 ∷ []) ≡ (load final (part a1 2) (number 3) ∷ [], ended (gave (number 3)))
final_load = refl

final_store : value_of (assign None (my 2) (get 0)) [] (number 3 ∷ []) ≡ (loaded 0 (number 3) ∷ stored 2 (number 3) ∷ [], ended (gave (number 3)))
final_store = refl

-- `z && f < 1`, `z || f < 1`, z a boolean field
and_stops_at_false : value_of (both None (get 4) (binary None (comparison less) (get 0) (num (pos 1)))) [] (truth false ∷ []) ≡ (loaded 4 (truth false) ∷ [], ended (gave (truth false)))
and_stops_at_false = refl

and_goes_on_at_true : value_of (both None (get 4) (binary None (comparison less) (get 0) (num (pos 1)))) [] (truth true ∷ number 1 ∷ []) ≡ (loaded 4 (truth true) ∷ loaded 0 (number 1) ∷ [], ended (gave (truth false)))
and_goes_on_at_true = refl

or_stops_at_true : value_of (either None (get 4) (binary None (comparison less) (get 0) (num (pos 1)))) [] (truth true ∷ []) ≡ (loaded 4 (truth true) ∷ [], ended (gave (truth true)))
or_stops_at_true = refl

or_goes_on_at_false : value_of (either None (get 4) (binary None (comparison less) (get 0) (num (pos 1)))) [] (truth false ∷ number 1 ∷ []) ≡ (loaded 4 (truth false) ∷ loaded 0 (number 1) ∷ [], ended (gave (truth false)))
or_goes_on_at_false = refl

-- `==` on references: one object is its number and class; literals of the same characters are one object
object_is_itself : value_of (binary None equal (this None) (var 0)) (a1 ∷ []) [] ≡ ([], ended (gave (truth true)))
object_is_itself = refl

objects_of_two_classes_differ : value_of (binary None equal (this None) (var 0)) (object 1 5 ∷ []) [] ≡ ([], ended (gave (truth false)))
objects_of_two_classes_differ = refl

equal_literals_are_one_object : value_of (binary None equal (literal None (text (97 ∷ []))) (literal None (text (97 ∷ [])))) [] [] ≡ ([], ended (gave (truth true)))
equal_literals_are_one_object = refl

null_is_no_object : value_of (binary None different (this None) (literal None null)) [] [] ≡ ([], ended (gave (truth true)))
null_is_no_object = refl

-- `(B) a`, `(A) b`, `(A) null`, `(A) "x"`, `(String) "x"`
cast_of_another_class_throws : value_of (cast None 5 (this None)) [] [] ≡ ([], ended (threw failed_cast))
cast_of_another_class_throws = refl

cast_of_a_subclass_passes : value_of (cast None 4 (var 0)) (b2 ∷ []) [] ≡ ([], ended (gave b2))
cast_of_a_subclass_passes = refl

cast_of_null_passes : value_of (cast None 5 (literal None null)) [] [] ≡ ([], ended (gave null))
cast_of_null_passes = refl

cast_of_a_string_throws : value_of (cast None 4 (var 0)) (text (120 ∷ []) ∷ []) [] ≡ ([], ended (threw failed_cast))
cast_of_a_string_throws = refl

cast_of_a_string_passes : value_of (cast None 1 (var 0)) (text (120 ∷ []) ∷ []) [] ≡ ([], ended (gave (text (120 ∷ []))))
cast_of_a_string_passes = refl

cast_of_a_class_object_passes : value_of (cast None 2 (var 0)) (class_object 4 ∷ []) [] ≡ ([], ended (gave (class_object 4)))
cast_of_a_class_object_passes = refl
