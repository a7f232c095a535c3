-- What operators come to is an int of 32 bits.
use Rattle.std.proofs.Common.{◌≡◌, ◌<◌, ◌≤◌, ◌-◌, ◌^◌, ℕ, ℤ, true, false, cond, pos, negsuc, nat_lt, sym, subst, ⊎_elim, arith}
use Rattle.std.proofs.lemmas.Bool.{cases_lt, lt-ltb, le-ltb}
use Rattle.jr_runs.specs.Values.{is_int}
use Rattle.jr_runs.specs.Arithmetic.{int_of_bits, low_bits, wrapped}

int_of_bits_fits : (b : ℕ) → is_int (int_of_bits b) ≡ true
int_of_bits_fits b = ⊎_elim
    (λ (h : b < 2147483648). let e : nat_lt b 2147483648 ≡ true = lt-ltb b 2147483648 h in subst (λ t. is_int (cond t (pos b) (negsuc (2 ^ 32 - 1 - b))) ≡ true) (sym e) e)
    (λ (h : 2147483648 ≤ b).
    let e : nat_lt b 2147483648 ≡ false = le-ltb b 2147483648 h in
    let f : 2 ^ 32 - 1 - b < 2147483648 = omega (arith, h) in
    subst (λ t. is_int (cond t (pos b) (negsuc (2 ^ 32 - 1 - b))) ≡ true) (sym e) (lt-ltb (2 ^ 32 - 1 - b) 2147483648 f))
    (cases_lt b 2147483648)

pub wrapped_fits : (z : ℤ) → is_int (wrapped z) ≡ true
wrapped_fits z = int_of_bits_fits (low_bits z)
