-- What operators come to, as theorems by computation. Each value is what `java` prints for the same expression.
use Rattle.std.proofs.Common.{◌≡◌, true, false, [], ◌∷◌, pos, negsuc, None, refl}
use Rattle.jr_plans.specs.Run.{End, ended}
use Rattle.jr_runs.specs.Values.{Value, int, truth}
use Rattle.jr_runs.specs.Actions.{Trace}
use Rattle.jr_runs.specs.Arithmetic.{zero_divisor}
use Rattle.jr_runs.specs.Core.{add, subtract, multiply, divide, remainder, less, greater, at_most, at_least, comparison, different, plus, minus, complement, pre_increment, pre_decrement, post_increment, post_decrement, literal, assign, compound, bump, signed, binary, local}
use Rattle.jr_runs.specs.Running.{Ending, gave, threw}
use Rattle.jr_runs.proofs.Sample.{K, value_of, number, num, var, calc}

abbrev done_with : Value K → Trace K × End (Ending K)
done_with v = ([], ended (gave v))

-- 2147483647 + 1 and -2147483648 - 1
sum_wraps : value_of (calc add (num (pos 2147483647)) (num (pos 1))) [] [] ≡ done_with (int (negsuc 2147483647))
sum_wraps = refl

difference_wraps : value_of (calc subtract (num (negsuc 2147483647)) (num (pos 1))) [] [] ≡ done_with (number 2147483647)
difference_wraps = refl

-- 65536 * 65536 and 46341 * 46341
product_wraps : value_of (calc multiply (num (pos 65536)) (num (pos 65536))) [] [] ≡ done_with (number 0)
product_wraps = refl

product_wraps_below : value_of (calc multiply (num (pos 46341)) (num (pos 46341))) [] [] ≡ done_with (int (negsuc 2147479014))
product_wraps_below = refl

-- -2147483648 / -1 and -2147483648 % -1
quotient_wraps : value_of (calc divide (num (negsuc 2147483647)) (num (negsuc 0))) [] [] ≡ done_with (int (negsuc 2147483647))
quotient_wraps = refl

remainder_of_the_least : value_of (calc remainder (num (negsuc 2147483647)) (num (negsuc 0))) [] [] ≡ done_with (number 0)
remainder_of_the_least = refl

-- -(-2147483648), and -2147483648 as it is written
negation_wraps : value_of (signed None minus (num (negsuc 2147483647))) [] [] ≡ done_with (int (negsuc 2147483647))
negation_wraps = refl

-- -7 / 2, 7 / -2, -7 % 2, 7 % -2
quotient_rounds_to_zero : value_of (calc divide (num (negsuc 6)) (num (pos 2))) [] [] ≡ done_with (int (negsuc 2))
quotient_rounds_to_zero = refl

quotient_by_a_negative : value_of (calc divide (num (pos 7)) (num (negsuc 1))) [] [] ≡ done_with (int (negsuc 2))
quotient_by_a_negative = refl

remainder_has_the_dividends_sign : value_of (calc remainder (num (negsuc 6)) (num (pos 2))) [] [] ≡ done_with (int (negsuc 0))
remainder_has_the_dividends_sign = refl

remainder_by_a_negative : value_of (calc remainder (num (pos 7)) (num (negsuc 1))) [] [] ≡ done_with (number 1)
remainder_by_a_negative = refl

quotient_by_zero : value_of (calc divide (num (pos 1)) (num (pos 0))) [] [] ≡ ([], ended (threw zero_divisor))
quotient_by_zero = refl

remainder_by_zero : value_of (calc remainder (num (pos 1)) (num (pos 0))) [] [] ≡ ([], ended (threw zero_divisor))
remainder_by_zero = refl

-- +(-3), !true
plus_keeps : value_of (signed None plus (num (negsuc 2))) [] [] ≡ done_with (int (negsuc 2))
plus_keeps = refl

not_turns : value_of (signed None complement (literal None (truth true))) [] [] ≡ done_with (truth false)
not_turns = refl

-- 1 < 2, 2 <= 2, 3 > 4, -1 >= 0, 1 != 1, -1 < 0
one_is_less_than_two : value_of (binary None (comparison less) (num (pos 1)) (num (pos 2))) [] [] ≡ done_with (truth true)
one_is_less_than_two = refl

two_is_at_most_two : value_of (binary None (comparison at_most) (num (pos 2)) (num (pos 2))) [] [] ≡ done_with (truth true)
two_is_at_most_two = refl

three_is_not_greater_than_four : value_of (binary None (comparison greater) (num (pos 3)) (num (pos 4))) [] [] ≡ done_with (truth false)
three_is_not_greater_than_four = refl

minus_one_is_not_at_least_zero : value_of (binary None (comparison at_least) (num (negsuc 0)) (num (pos 0))) [] [] ≡ done_with (truth false)
minus_one_is_not_at_least_zero = refl

one_is_not_different_from_one : value_of (binary None different (num (pos 1)) (num (pos 1))) [] [] ≡ done_with (truth false)
one_is_not_different_from_one = refl

-- x = 1; x += (x = 5): the old value of x is taken first
left_of_compound_is_taken_first : value_of (compound None add (local None 0) (assign None (local None 0) (num (pos 5)))) (number 1 ∷ []) [] ≡ done_with (number 6)
left_of_compound_is_taken_first = refl

-- x = 1; x++ + x, ++x + x, x-- - x, --x - x
post_increment_gives_the_old : value_of (calc add (bump None post_increment (local None 0)) (var 0)) (number 1 ∷ []) [] ≡ done_with (number 3)
post_increment_gives_the_old = refl

pre_increment_gives_the_new : value_of (calc add (bump None pre_increment (local None 0)) (var 0)) (number 1 ∷ []) [] ≡ done_with (number 4)
pre_increment_gives_the_new = refl

post_decrement_gives_the_old : value_of (calc subtract (bump None post_decrement (local None 0)) (var 0)) (number 1 ∷ []) [] ≡ done_with (number 1)
post_decrement_gives_the_old = refl

pre_decrement_gives_the_new : value_of (calc subtract (bump None pre_decrement (local None 0)) (var 0)) (number 1 ∷ []) [] ≡ done_with (number 0)
pre_decrement_gives_the_new = refl

-- x = -20; x %= 3
compound_remainder : value_of (compound None remainder (local None 0) (num (pos 3))) (int (negsuc 19) ∷ []) [] ≡ done_with (int (negsuc 1))
compound_remainder = refl

-- x = 5; x /= 0
compound_by_zero : value_of (compound None divide (local None 0) (num (pos 0))) (number 5 ∷ []) [] ≡ ([], ended (threw zero_divisor))
compound_by_zero = refl
