-- What operators come to. Ints have 32 bits, and results wrap (JLS 4.2.2).
use Rattle.std.specs.Prelude.{ℕ, ◌-◌, ◌%◌, ◌^◌, Bool, true, false, cond, not, ℤ, pos, negsuc, ◌+ℤ◌}
use Rattle.std.specs.Prelude.{◌-ℤ◌, ◌*ℤ◌, neg_ℤ, int_lt, int_le, int_div, int_rem, nat_lt}
use Rattle.jr_runs.specs.Keys.{Keys}
use Rattle.jr_runs.specs.Values.{Value, int, truth, null, text, class_object, object, same_value}
use Rattle.jr_runs.specs.Core.{Arithmetic, add, subtract, multiply, divide, remainder, Comparison}
use Rattle.jr_runs.specs.Core.{less, greater, at_most, at_least, Operator, arithmetic, comparison}
use Rattle.jr_runs.specs.Core.{equal, different, Sign, plus, minus, complement, Bump, pre_increment}
use Rattle.jr_runs.specs.Core.{pre_decrement, post_increment, post_decrement}

-- what a program can throw: for null, for a divisor of zero, at a cast, at a second start (JLS
-- 11.1, 15.12.4.4, 15.16, 15.17.2)
pub data Fault : Type 0 where
  null_reference zero_divisor failed_cast started_before : Fault

-- what evaluation comes to
pub data Out (A : Type 0) : Type 0 where
  value : (result : A) → Out A
  thrown : (fault : Fault) → Out A

-- the low 32 bits of a number, as two's complement has them
abbrev pub low_bits : ℤ → ℕ
low_bits (pos n) = n % 2 ^ 32
low_bits (negsuc n) = 2 ^ 32 - 1 - n % 2 ^ 32

-- the int that 32 bits are
abbrev pub int_of_bits : ℕ → ℤ
int_of_bits b = cond (nat_lt b 2147483648) (pos b) (negsuc (2 ^ 32 - 1 - b))

abbrev pub wrapped : ℤ → ℤ
wrapped z = int_of_bits (low_bits z)

abbrev pub wrapped_int : {K : Keys} → ℤ → Value K
wrapped_int z = int (wrapped z)

abbrev pub is_zero : ℤ → Bool
is_zero (pos n) = nat_lt n 1
is_zero (negsuc n) = false

-- Division rounds towards 0, and a remainder has the dividend's sign; a divisor of 0 throws (JLS
-- 15.17.2, 15.17.3).
abbrev pub unless_zero : {K : Keys} → Bool → ℤ → Out (Value K)
unless_zero true z = thrown zero_divisor
unless_zero false z = value (wrapped_int z)

abbrev pub calculate : {K : Keys} → Arithmetic → ℤ → ℤ → Out (Value K)
calculate add a b = value (wrapped_int (a +ℤ b))
calculate subtract a b = value (wrapped_int (a -ℤ b))
calculate multiply a b = value (wrapped_int (a *ℤ b))
calculate divide a b = unless_zero (is_zero b) (int_div a b)
calculate remainder a b = unless_zero (is_zero b) (int_rem a b)

abbrev pub compare : Comparison → ℤ → ℤ → Bool
compare less a b = int_lt a b
compare greater a b = int_lt b a
compare at_most a b = int_le a b
compare at_least a b = int_le b a

-- The number of an int, and the truth of a boolean. Of other values, which no sound program has
-- there: 0 and false.
abbrev pub number_of : {K : Keys} → Value K → ℤ
number_of (int z) = z
number_of (truth b) = pos 0
number_of null = pos 0
number_of (text t) = pos 0
number_of (class_object c) = pos 0
number_of (object n c) = pos 0

abbrev pub truth_of : {K : Keys} → Value K → Bool
truth_of (int z) = false
truth_of (truth b) = b
truth_of null = false
truth_of (text t) = false
truth_of (class_object c) = false
truth_of (object n c) = false

abbrev pub operate : {K : Keys} → (K.class → K.class → Bool) → Operator → Value K → Value K
    → Out (Value K)
operate same_class (arithmetic op) v w = calculate op (number_of v) (number_of w)
operate same_class (comparison op) v w = value (truth (compare op (number_of v) (number_of w)))
operate same_class equal v w = value (truth (same_value same_class v w))
operate same_class different v w = value (truth (not (same_value same_class v w)))

abbrev pub sign : {K : Keys} → Sign → Value K → Value K
sign plus v = int (wrapped (number_of v))
sign minus v = int (wrapped (neg_ℤ (number_of v)))
sign complement v = truth (not (truth_of v))

-- what a bump stores
abbrev pub bumped : {K : Keys} → Bump → Value K → Value K
bumped pre_increment v = int (wrapped (number_of v +ℤ pos 1))
bumped pre_decrement v = int (wrapped (number_of v -ℤ pos 1))
bumped post_increment v = int (wrapped (number_of v +ℤ pos 1))
bumped post_decrement v = int (wrapped (number_of v -ℤ pos 1))

-- what its expression comes to: the new value where the operator stands in front, and the old one
-- where it stands behind
abbrev pub bump_value : {K : Keys} → Bump → Value K → Value K → Value K
bump_value pre_increment old new = new
bump_value pre_decrement old new = new
bump_value post_increment old new = old
bump_value post_decrement old new = old
