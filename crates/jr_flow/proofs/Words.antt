-- Rows in which one word has got bits: which bits there are now.
use Rattle.std.proofs.Common.{◌≡◌, ◌⊎◌, ◌<◌, ℕ, ◌+◌, ◌-◌, ◌*◌, ◌/◌, ◌%◌, ◌^◌, Bool, true, false, List, length, get_or, eqb, refl, sym, ap, ◌∙◌, inl, inr, arith}
use Rattle.std.proofs.Math.ListN.{set, replicate}
use Rattle.std.specs.Prelude.{bit_and, bit_or, ◌||◌, ◌↔◌}
use Rattle.std.specs.Int.{bit_at}
use Rattle.std.proofs.lemmas.Bool.{cases_eq, cases_lt, eqb-true, eq-eqb}
use Rattle.std.proofs.lemmas.List.{get_or-set_same, get_or-set_other, set-get_or, get_or-replicate, get_or_past, length-replicate}
use Rattle.std.proofs.lemmas.Nat.{le_or_l, one_shl, same_from_place}
use Rattle.std.proofs.lemmas.Nat.Bits.{bit_at_or, bit_at-lt, bit_at-zero, bit_at-pow_same, bit_at-pow_other, shr_and_one}
use Rattle.std.proofs.lemmas.List.Sums.{sum_by-set}
use Rattle.jr_flow.specs.Rows.{Has, added, room, Moves, Puts}

-- ---- a bit of a word

pub has_tests : (words : List ℕ) (width row column : ℕ)
    → (eqb (bit_and (get_or words (row * width + column / 64) 0 / 2 ^ (column % 64)) 1) 1 ≡ true) ↔ Has words width row column
unfolding Has
has_tests words width row column = rw shr_and_one (eqb-true _ 1, eq-eqb _ 1)

pub word_has : (words : List ℕ) (width row k column : ℕ) → column / 64 ≡ k → bit_at (get_or words (row * width + k) 0) (column % 64) ≡ 1 → Has words width row column
unfolding Has
word_has words width row k column is bit = ap (λ j. bit_at (get_or words (row * width + j) 0) (column % 64)) is ∙ bit

pub has_word : (words : List ℕ) (width row k column : ℕ) → column / 64 ≡ k → Has words width row column → bit_at (get_or words (row * width + k) 0) (column % 64) ≡ 1
unfolding Has
has_word words width row k column is has = ap (λ j. bit_at (get_or words (row * width + j) 0) (column % 64)) (sym is) ∙ has

-- a word without bits
pub empty_word : (words : List ℕ) (width row column : ℕ) → get_or words (row * width + column / 64) 0 ≡ 0 → Has words width row column → ⊥
unfolding Has
empty_word words width row column is has =
    let none : bit_at (get_or words (row * width + column / 64) 0) (column % 64) ≡ 0 = ap (λ v. bit_at v (column % 64)) is ∙ bit_at-zero (column % 64) in
    omega arith

zero_at : (n i : ℕ) → get_or {A = ℕ} (replicate n 0) i 0 ≡ 0
zero_at n i =
    elim (cases_lt i n) [
      | inl within ↦ get_or-replicate n i 0 0 within
      | inr past ↦ get_or_past (replicate n 0) i 0 (rw length-replicate past)
    ]

pub no_bits : (n : ℕ) (words : List ℕ) → words ≡ replicate n 0 → (width row column : ℕ) → Has words width row column → ⊥
no_bits n words is width row column =
    empty_word words width row column (ap (λ ws. get_or ws (row * width + column / 64) 0) is ∙ zero_at n (row * width + column / 64))

or_left : (a b i : ℕ) → bit_at a i ≡ 1 → bit_at (bit_or a b) i ≡ 1
or_left a b i bit = omega (arith, bit_at_or a b i, bit_at-lt b i)

or_right : (a b i : ℕ) → bit_at b i ≡ 1 → bit_at (bit_or a b) i ≡ 1
or_right a b i bit = omega (arith, bit_at_or a b i, bit_at-lt a i)

or_cases : (a b i : ℕ) → bit_at (bit_or a b) i ≡ 1 → (bit_at a i ≡ 1) ⊎ (bit_at b i ≡ 1)
or_cases a b i bit =
    elim (cases_eq (bit_at a i) 1) [
      | inl old ↦ inl old
      | inr ne ↦ inr (omega (arith, bit_at_or a b i, bit_at-lt a i))
    ]

one_bit : (k : ℕ) → k < 64 → bit_at (1 * 2 ^ k % 2 ^ 64) k ≡ 1
one_bit k within = ap (λ n. bit_at n k) (one_shl k 64 within) ∙ bit_at-pow_same k

only_bit : (k i : ℕ) → k < 64 → bit_at (1 * 2 ^ k % 2 ^ 64) i ≡ 1 → i ≡ k
only_bit k i within bit =
    elim (cases_eq i k) [
      | inl same ↦ same
      | inr ne ↦
          let other : bit_at (1 * 2 ^ k % 2 ^ 64) i ≡ 0 = ap (λ n. bit_at n i) (one_shl k 64 within) ∙ bit_at-pow_other k i ne in
          absurd (omega arith)
    ]

-- ---- the word at a place has got bits

module _ (words : List ℕ) (width place bits : ℕ) (within : place < length words) where
  is_here : (row column : ℕ) → row * width + column / 64 ≡ place
      → bit_at (get_or (added words place bits) (row * width + column / 64) 0) (column % 64) ≡ bit_at (bit_or (get_or words place 0) bits) (column % 64)
  is_here row column is =
      ap (λ i. bit_at (get_or (added words place bits) i 0) (column % 64)) is
      ∙ ap (λ v. bit_at v (column % 64)) (get_or-set_same words place (bit_or (get_or words place 0) bits) 0 within)

  is_there : (row column : ℕ) → (row * width + column / 64 ≡ place → ⊥)
      → bit_at (get_or (added words place bits) (row * width + column / 64) 0) (column % 64) ≡ bit_at (get_or words (row * width + column / 64) 0) (column % 64)
  is_there row column ne =
      ap (λ v. bit_at v (column % 64)) (get_or-set_other words place (row * width + column / 64) (bit_or (get_or words place 0) bits) 0 ne)

  pub added_keeps : (row column : ℕ) → Has words width row column → Has (added words place bits) width row column
  unfolding Has
  added_keeps row column has =
      elim (cases_eq (row * width + column / 64) place) [
        | inl is ↦
            is_here row column is
            ∙ or_left (get_or words place 0) bits (column % 64) (ap (λ i. bit_at (get_or words i 0) (column % 64)) (sym is) ∙ has)
        | inr ne ↦ is_there row column ne ∙ has
      ]

  pub added_has : (row column : ℕ) → row * width + column / 64 ≡ place → bit_at bits (column % 64) ≡ 1 → Has (added words place bits) width row column
  unfolding Has
  added_has row column is bit = is_here row column is ∙ or_right (get_or words place 0) bits (column % 64) bit

  pub added_only : (row column : ℕ) → Has (added words place bits) width row column
      → Has words width row column ⊎ ((row * width + column / 64 ≡ place) × (bit_at bits (column % 64) ≡ 1))
  unfolding Has
  added_only row column has =
      elim (cases_eq (row * width + column / 64) place) [
        | inl is ↦
            elim (or_cases (get_or words place 0) bits (column % 64) (sym (is_here row column is) ∙ has)) [
              | inl old ↦ inl (ap (λ i. bit_at (get_or words i 0) (column % 64)) is ∙ old)
              | inr bit ↦ inr (is, bit)
            ]
        | inr ne ↦ inl (sym (is_there row column ne) ∙ has)
      ]

-- one bit is set
pub puts : (words : List ℕ) (width row column : ℕ) → row * width + column / 64 < length words → column / 64 < width
    → Puts width row column words (added words (row * width + column / 64) (1 * 2 ^ (column % 64) % 2 ^ 64))
puts words width row column within inside = record {
  has = added_has words width (row * width + column / 64) (1 * 2 ^ (column % 64) % 2 ^ 64) within row column refl (one_bit (column % 64) (omega arith));
  kept = added_keeps words width (row * width + column / 64) (1 * 2 ^ (column % 64) % 2 ^ 64) within;
  only = λ a c lt has. by a c lt (added_only words width (row * width + column / 64) (1 * 2 ^ (column % 64) % 2 ^ 64) within a c has);
}
  where
    by : (a c : ℕ) → c / 64 < width
        → (Has words width a c ⊎ ((a * width + c / 64 ≡ row * width + column / 64) × (bit_at (1 * 2 ^ (column % 64) % 2 ^ 64) (c % 64) ≡ 1)))
        → Has words width a c ⊎ ((a ≡ row) × (c ≡ column))
    by a c lt (inl old) = inl old
    by a c lt (inr (at, bit)) =
        let same = same_from_place a (c / 64) row (column / 64) width lt inside at in
        let word : c / 64 ≡ column / 64 = same.1 in
        let rest : c % 64 ≡ column % 64 = only_bit (column % 64) (c % 64) (omega arith) bit in
        inr (same.0, omega arith)

-- ---- whether words have changed

pub moves_none : (words : List ℕ) → Moves words words false
moves_none words = record { same = λ e. refl; less = λ e. absurd cc }

pub moves_more : (first old new : List ℕ) (changed told : Bool) → Moves first old changed → Moves old new told → Moves first new (changed || told)
moves_more first old new true true m n = record {
  same = λ e. absurd cc;
  less = λ e. let one = m.less refl in let two = n.less refl in omega arith;
}
moves_more first old new true false m n = record {
  same = λ e. absurd cc;
  less = λ e. let one = m.less refl in let two : room new ≡ room old = ap room (n.same refl) in omega arith;
}
moves_more first old new false true m n = record {
  same = λ e. absurd cc;
  less = λ e. let one : room old ≡ room first = ap room (m.same refl) in let two = n.less refl in omega arith;
}
moves_more first old new false false m n = record { same = λ e. n.same refl ∙ m.same refl; less = λ e. absurd cc }

pub moves_added : (words : List ℕ) (place bits : ℕ) (changed : Bool) → place < length words → get_or words place 0 < 2 ^ 64
    → (changed ≡ false → bit_or (get_or words place 0) bits ≡ get_or words place 0)
    → (changed ≡ true → bit_or (get_or words place 0) bits ≡ get_or words place 0 → ⊥) → Moves words (added words place bits) changed
unfolding room
moves_added words place bits changed within fits stays differs = record {
  same = λ e. ap (set words place) (stays e) ∙ set-get_or words place 0;
  less = λ e.
      let ne = differs e in
      let more = le_or_l (get_or words place 0) bits in
      let sums = sum_by-set (λ (w : ℕ). 2 ^ 64 - w) words place (bit_or (get_or words place 0) bits) 0 within in
      omega arith;
}
