-- Lists of other lengths, or with another site in some place, differ.
use Rattle.std.proofs.Common.{◌≡◌, ℕ, suc, ◌+◌, Bool, true, false, List, [], ◌∷◌, length, refl, sym, ap, arith}
use Rattle.jr_cover.specs.Sites.{What, reads, writes, loads, stores, enters, exits, creates, checks, calls, loops, Site}
use Rattle.jr_cover_cases.specs.Samples.{K}
use Rattle.jr_cover_cases.specs.WrongTurns.{WrongTurns}

abbrev is_check : What K → Bool
is_check (reads n) = false
is_check (writes n) = false
is_check (loads f) = false
is_check (stores f) = false
is_check enters = false
is_check exits = false
is_check creates = false
is_check checks = true
is_check calls = false
is_check loops = false

-- is the second site a `Check`?
abbrev checks_second : List (Site K) → Bool
checks_second [] = false
checks_second (s ∷ []) = false
checks_second (s ∷ t ∷ all) = is_check t.what

false_is_not_true : false ≡ true → ⊥
false_is_not_true e = cc

-- of different lengths
longer : {T : Type 0} {l m : List T} → l ≡ m → (a b : ℕ) → length l ≡ suc (a + b) → length m ≡ a → ⊥
longer {l = l} {m = m} e a b p q =
    let r : length l ≡ length m = ap length e in
    omega (arith, p, q, r)

pub wrong_turns : WrongTurns
wrong_turns = record {
  no_edge_to_the_condition = λ e. longer e 3 0 refl refl;
  no_way_past_the_right_operand = λ e. longer e 2 0 refl refl;
  check_before_the_right_side = λ e. false_is_not_true (ap (λ l. checks_second l) e);
  exit_past_the_return = λ e. longer e 5 0 refl refl;
  check_for_a_literal = λ e. longer (sym e) 1 0 refl refl;
  no_check_for_zero = λ e. longer e 1 0 refl refl;
}
