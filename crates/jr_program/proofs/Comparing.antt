-- What a comparison of two numbers says.
use Rattle.std.proofs.Common.{◌≡◌, ℕ, ◌<◌, ◌≤◌, Bool, true, false, cond, refl, subst, arith}
use Rattle.std.specs.Prelude.{nat_lt, ◌==◌}
use Rattle.std.specs.Ordering.{nat_cmp, is_lt, MatchOrdering}
use Rattle.std.specs.declared.cmp.Ordering.TheVariants.{Less, Equal, Greater}
use Rattle.std.specs.Cmp.{ranks}
use Rattle.std.proofs.lemmas.Bool.{ltb-true}

pub less : (a b : ℕ) → nat_cmp a b ≡ Less → a < b
less a b e = subst (λ o. MatchOrdering o (a < b) (a ≡ b) (b < a)) e (ranks a b)

pub equal : (a b : ℕ) → nat_cmp a b ≡ Equal → a ≡ b
equal a b e = subst (λ o. MatchOrdering o (a < b) (a ≡ b) (b < a)) e (ranks a b)

pub greater : (a b : ℕ) → nat_cmp a b ≡ Greater → b < a
greater a b e = subst (λ o. MatchOrdering o (a < b) (a ≡ b) (b < a)) e (ranks a b)

pub not_less : (a b : ℕ) → a ≤ b → is_lt (nat_cmp b a) ≡ false
not_less a b le = by (nat_lt b a) refl
  where
    other : (t : Bool) → is_lt (cond t Equal Greater) ≡ false
    other true = refl
    other false = refl

    by : (t : Bool) → nat_lt b a ≡ t → is_lt (cond t Less (cond (b == a) Equal Greater)) ≡ false
    by true lt = let l = ltb-true b a lt in absurd (omega (arith, le, l))
    by false ge = other (b == a)
