-- Even marks are those of cycles.
use Rattle.std.proofs.Common.{◌≡◌, ◌≢◌, ℕ, zero, suc, ◌+◌, ◌-◌, ◌*◌, ◌/◌, ◌%◌, ◌<◌, ◌≤◌, List, [], ◌∷◌, length, map, Option, Some, None, Bool, true, false, refl, sym, ap, subst, ◌∙◌, arith, ◌==◌, eqb-true, eq-eqb}
use Rattle.std.specs.Prelude.{slice_get}
use Rattle.std.proofs.lemmas.List.{length-map}
use Rattle.std.proofs.lemmas.Option.{slice_get_within}
use Rattle.std.proofs.Math.Nat.{div-add-mod, mod-lt}
use Rattle.jr_index.specs.Parents.{Returns}
use Rattle.jr_index.specs.Cycles.{AreMarked, AreOnCycle, is_even}

mapped : (xs : List ℕ) (j : ℕ) (b : Bool) → slice_get (map is_even xs) j ≡ Some b → (m : ℕ) × (slice_get xs j ≡ Some m) × (is_even m ≡ b)
mapped [] j b h = absurd cc
mapped (x ∷ xs) zero b h = (x, refl, cc)
mapped (x ∷ xs) (suc j) b h = mapped xs j b h

-- no even number is odd
pub parity : (a b : ℕ) → 2 * a + 2 ≡ 2 * b + 1 → ⊥
parity zero zero e = omega (arith, e)
parity zero (suc b) e = omega (arith, e)
parity (suc a) zero e = omega (arith, e)
parity (suc a) (suc b) e = parity a b (omega (arith, e))

-- with q for the half of m and r for what is left over
halved : (m q r : ℕ) → 2 * q + r ≡ m → r ≡ 0 → m ≢ 0 → m ≡ 2 * (q - 1) + 2
halved m zero r e z n = absurd (n (omega (arith, e, z)))
halved m (suc q) r e z n = omega (arith, e, z)

halved_odd : (m q r : ℕ) → 2 * q + r ≡ m → r < 2 → r ≢ 0 → m ≡ 2 * q + 1
halved_odd m q r e lt n = omega (arith, e, lt, one r lt n)
  where
    one : (r : ℕ) → r < 2 → r ≢ 0 → r ≡ 1
    one zero lt n = absurd (n refl)
    one (suc zero) lt n = refl
    one (suc (suc r)) lt n = absurd (omega (arith, lt))

module _ (parents : List (Option ℕ)) (n : ℕ) (marks : List ℕ) (first : Option ℕ) (size : length marks ≡ length parents) (past : length parents ≤ n) (m : AreMarked parents n marks first) where
  on : (j : ℕ) → slice_get (map is_even marks) j ≡ Some true → Returns parents j
  on j h =
      let k = mapped marks j true h in
      let l = slice_get_within marks j k.0 k.1 in
      let marked : k.0 ≢ 0 = λ e. m.done j (omega (arith, l, size, past)) (k.1 ∙ ap Some e) in
      m.even j (k.0 / 2 - 1) (k.1 ∙ ap Some (halved k.0 (k.0 / 2) (k.0 % 2) (div-add-mod k.0 2) (eqb-true (k.0 % 2) 0 k.2) marked))

  off : (j : ℕ) → slice_get (map is_even marks) j ≡ Some false → Returns parents j → ⊥
  off j h =
      let k = mapped marks j false h in
      let not_even : k.0 % 2 ≢ 0 = λ e. let t = eq-eqb (k.0 % 2) 0 e in let f = k.2 in absurd cc in
      m.odd j (k.0 / 2) (k.1 ∙ ap Some (halved_odd k.0 (k.0 / 2) (k.0 % 2) (div-add-mod k.0 2) (mod-lt k.0 {m = 2} (omega arith)) not_even))

  pub known : (all : List Bool) → all ≡ map is_even marks → AreOnCycle parents all
  known all e = subst (AreOnCycle parents) (sym e) (record { size = simp length-map size; each = on; none = off })
