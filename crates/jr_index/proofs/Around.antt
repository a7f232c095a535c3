-- The marks after a walk round a new cycle.
use Rattle.std.proofs.Common.{◌≡◌, ◌≢◌, ℕ, suc, ◌+◌, ◌*◌, ◌-◌, ◌<◌, ◌≤◌, List, length, Option, Some, None, sym, ap, subst, ◌∙◌, arith, inl, inr}
use Rattle.std.specs.Prelude.{◌⊎◌, slice_get, MatchOption}
use Rattle.std.proofs.lemmas.Option.{slice_get_within}
use Rattle.jr_index.specs.Parents.{up, next, Returns}
use Rattle.jr_index.specs.Walked.{Walked}
use Rattle.jr_index.specs.Cycles.{AreMarked}
use Rattle.jr_index.proofs.Parity.{parity}
use Rattle.jr_index.proofs.Returning.{returns_along, leads_back, never_ends, along, all_steps}
use Rattle.jr_index.proofs.Marking as marking

number_of : (a b : ℕ) → Some a ≡ Some b → a ≡ b
number_of a b e = cc

module _ (parents : List (Option ℕ)) (start : ℕ) (old new last : List ℕ) (first met end : Option ℕ) (low least c : ℕ)
    (size : length new ≡ length old) (size2 : length last ≡ length new)
    (m : AreMarked parents start old first) (w : Walked parents start 0 (2 * start + 1) old new met low)
    (there : up w.steps parents start ≡ Some c) (here : slice_get new c ≡ Some (2 * start + 1))
    (v : Walked parents c (2 * start + 1) (2 * start + 2) new last end least) where
  -- the class that was met is on a cycle
  returns_c : Returns parents c
  returns_c = by (marking.came parents start old new first met low size m w c)
    where
      by : marking.Came parents start old new first met low size m w c → Returns parents c
      by (marking.kept same) = let l = m.stamps c (2 * start + 1) (sym same ∙ here) in absurd (omega (arith, l))
      by (marking.passed s lt at was is under) =
          let e : suc (w.steps - (s + 1)) ≡ w.steps - s = omega (arith, lt) in
          (w.steps - (s + 1), ap (λ n. up n parents c) e ∙ marking.end_of parents start old new first met low size m w s c lt at ∙ there)

  was_new : slice_get old c ≡ Some 0
  was_new = by (marking.came parents start old new first met low size m w c)
    where
      by : marking.Came parents start old new first met low size m w c → slice_get old c ≡ Some 0
      by (marking.kept same) = let l = m.stamps c (2 * start + 1) (sym same ∙ here) in absurd (omega (arith, l))
      by (marking.passed s lt at was is under) = was

  -- a class met by the second walk, by its mark before
  data Came (j : ℕ) : Type 0 where
    kept : (same : slice_get last j ≡ slice_get new j) → Came j
    passed : (s : ℕ) (lt : s < v.steps) (at : up s parents c ≡ Some j) (was : slice_get new j ≡ Some (2 * start + 1)) (is : slice_get last j ≡ Some (2 * start + 2)) (under : least ≤ j) → Came j

  came : (j : ℕ) → Came j
  came j = of (v.others j)
    where
      of : ((slice_get last j ≡ slice_get new j) ⊎ ((s : ℕ) × (s < v.steps) × (up s parents c ≡ Some j))) → Came j
      of (inl same) = kept same
      of (inr (s, lt, at)) =
          let p = v.passes s lt in
          let same : p.class ≡ j = number_of p.class j (sym p.reached ∙ at) in
          passed s lt at (subst (λ (x : ℕ). slice_get new x ≡ Some (2 * start + 1)) same p.was_free) (subst (λ (x : ℕ). slice_get last x ≡ Some (2 * start + 2)) same p.stamped) (subst (λ (x : ℕ). least ≤ x) same p.least)

  to_new : (j : ℕ) → slice_get last j ≢ Some 0 → slice_get new j ≢ Some 0
  to_new j h = by (came j)
    where
      by : Came j → slice_get new j ≢ Some 0
      by (kept same) e = h (same ∙ e)
      by (passed s lt at was is under) e = let n = number_of (2 * start + 1) 0 (sym was ∙ e) in absurd (omega (arith, n))

  to_last : (j : ℕ) → slice_get new j ≢ Some 0 → slice_get last j ≢ Some 0
  to_last j h = by (came j)
    where
      by : Came j → slice_get last j ≢ Some 0
      by (kept same) e = h (sym same ∙ e)
      by (passed s lt at was is under) e = let n = number_of (2 * start + 2) 0 (sym is ∙ e) in absurd (omega (arith, n))

  new_closed : (j p : ℕ) → slice_get new j ≢ Some 0 → next parents j ≡ Some p → slice_get new p ≢ Some 0
  new_closed = marking.closed parents start old new first met low size m w

  -- the second walk comes back to a class that it passed
  data ComesBack : Type 0 where
    back : (e s : ℕ) (ends : up v.steps parents c ≡ Some e) (lt : s < v.steps) (at : up s parents c ≡ Some e) → ComesBack

  comes_back : ComesBack
  comes_back = of end v.ends
    where
      first_passed : (e : ℕ) → slice_get new e ≢ Some (2 * start + 1) → up v.steps parents c ≡ Some e → marking.Came parents start old new first met low size m w e → ⊥
      first_passed e not_free ends (marking.passed s lt at was is under) = not_free is
      first_passed e not_free ends (marking.kept same) =
          let leads = leads_back parents v.steps c e returns_c ends in
          let c_marked : slice_get new c ≢ Some 0 = λ z. let n = number_of (2 * start + 1) 0 (sym here ∙ z) in absurd (omega (arith, n)) in
          let e_marked = along parents (λ x. slice_get new x ≢ Some 0) new_closed v.steps c e ends c_marked in
          along parents (λ x. slice_get old x ≢ Some 0) m.closed leads.0 e c leads.1 (λ z. e_marked (same ∙ z)) was_new

      at_end : (e : ℕ) → up v.steps parents c ≡ Some e → slice_get last e ≢ Some (2 * start + 1) → Came e → ComesBack
      at_end e ends not_free (passed s lt at was is under) = back e s ends lt at
      at_end e ends not_free (kept same) = absurd (first_passed e (λ z. not_free (same ∙ z)) ends (marking.came parents start old new first met low size m w e))

      of : (o : Option ℕ) → MatchOption o (up v.steps parents c ≡ None) (λ e. (up v.steps parents c ≡ Some e) × (slice_get last e ≢ Some (2 * start + 1))) → ComesBack
      of None top = absurd (never_ends parents v.steps c returns_c top)
      of (Some e) (ends, not_free) = at_end e ends not_free (came e)

  least_under : (n x : ℕ) → up n parents c ≡ Some x → least ≤ x
  least_under n x at = of comes_back
    where
      each : (s x : ℕ) → s < v.steps → up s parents c ≡ Some x → least ≤ x
      each s x lt at = let p = v.passes s lt in subst (λ (y : ℕ). least ≤ y) (number_of p.class x (sym p.reached ∙ at)) p.least

      of : ComesBack → least ≤ x
      of (back e s ends lt there) = all_steps parents (λ y. least ≤ y) c e v.steps s ends there lt each (n + 1) n x (omega arith) at

  round_stamped : (n x : ℕ) → up n parents c ≡ Some x → slice_get last x ≡ Some (2 * start + 2)
  round_stamped n x at = of comes_back
    where
      each : (s x : ℕ) → s < v.steps → up s parents c ≡ Some x → slice_get last x ≡ Some (2 * start + 2)
      each s x lt at = let p = v.passes s lt in subst (λ (y : ℕ). slice_get last y ≡ Some (2 * start + 2)) (number_of p.class x (sym p.reached ∙ at)) p.stamped

      of : ComesBack → slice_get last x ≡ Some (2 * start + 2)
      of (back e s ends lt there) = all_steps parents (λ y. slice_get last y ≡ Some (2 * start + 2)) c e v.steps s ends there lt each (n + 1) n x (omega arith) at

  some_step : 0 < v.steps
  some_step = of comes_back
    where
      of : ComesBack → 0 < v.steps
      of (back e s ends lt at) = omega (arith, lt)

  least_returns : Returns parents least
  least_returns = let p = v.least some_step in returns_along parents p.0 c least returns_c p.2

  least_within : least < length last
  least_within =
      let p = v.least some_step in
      let q = v.passes p.0 p.1 in
      let same : q.class ≡ least = number_of q.class least (sym q.reached ∙ p.2) in
      slice_get_within last least (2 * start + 2) (subst (λ (x : ℕ). slice_get last x ≡ Some (2 * start + 2)) same q.stamped)

  abbrev pub IsLower : Option ℕ → ℕ → Type 0
  IsLower None f = f ≡ least
  IsLower (Some g) f = (f ≤ g) × (f ≤ least) × ((f ≡ g) ⊎ (f ≡ least))

  lower_least : (o : Option ℕ) (f : ℕ) → IsLower o f → f ≤ least
  lower_least None f e = omega (arith, e)
  lower_least (Some g) f h = h.1

  lower_old : (o : Option ℕ) (f j : ℕ) → IsLower o f → MatchOption o ⊥ (λ g. g ≤ j) → f ≤ j
  lower_old None f j e h = absurd h
  lower_old (Some g) f j h k = let a = h.0 in omega (arith, a, k)

  sound_lower : (o : Option ℕ) (f : ℕ) → IsLower o f → MatchOption o (Unit {0}) (λ g. (g < length old) × Returns parents g) → (f < length last) × Returns parents f
  sound_lower None f e h = (subst (λ (x : ℕ). x < length last) (sym e) least_within, subst (Returns parents) (sym e) least_returns)
  sound_lower (Some g) f (a, b, inl e) h = let n = h.0 in (omega (arith, e, n, size, size2), subst (Returns parents) (sym e) h.1)
  sound_lower (Some g) f (a, b, inr e) h = (subst (λ (x : ℕ). x < length last) (sym e) least_within, subst (Returns parents) (sym e) least_returns)

  pub marked_around : (f : ℕ) → IsLower first f → AreMarked parents (start + 1) last (Some f)
  marked_around f lower = record {
    stamps = λ j k h. stamp j k h (came j);
    closed = λ j p h n. to_last p (new_closed j p (to_new j h) n);
    done = λ j lt. to_last j (marking.done parents start old new first met low size m w j lt);
    covered = λ j h within r. cover j r (marking.came parents start old new first met low size m w j) (to_new j h) within;
    even = λ j k h. even j k h (came j) (marking.came parents start old new first met low size m w j);
    odd = λ j k h r. odd j k h r (came j) (marking.came parents start old new first met low size m w j);
    sound = sound_lower first f lower m.sound;
  }
    where
      even : (j k : ℕ) → slice_get last j ≡ Some (2 * k + 2) → Came j → marking.Came parents start old new first met low size m w j → Returns parents j
      even j k h (passed s lt at was is under) before = returns_along parents s c j returns_c at
      even j k h (kept same) (marking.kept also) = m.even j k (sym also ∙ sym same ∙ h)
      even j k h (kept same) (marking.passed s lt at was is under) = absurd (parity k start (number_of (2 * k + 2) (2 * start + 1) (sym h ∙ same ∙ is)))

      odd : (j k : ℕ) → slice_get last j ≡ Some (2 * k + 1) → Returns parents j → Came j → marking.Came parents start old new first met low size m w j → ⊥
      odd j k h r (passed s lt at was is under) before = parity start k (sym (number_of (2 * k + 1) (2 * start + 2) (sym h ∙ is)))
      odd j k h r (kept same) (marking.kept also) = m.odd j k (sym also ∙ sym same ∙ h) r
      odd j k h r (kept same) (marking.passed s lt at was is under) =
          let leads = leads_back parents (w.steps - s) j c r (marking.end_of parents start old new first met low size m w s j lt at ∙ there) in
          parity start k (sym (number_of (2 * k + 1) (2 * start + 2) (sym h ∙ round_stamped leads.0 j leads.1)))

      stamp : (j k : ℕ) → slice_get last j ≡ Some k → Came j → k < 2 * (start + 1) + 1
      stamp j k h (kept same) = let l = marking.stamps parents start old new first met low size m w j k (sym same ∙ h) in omega (arith, l)
      stamp j k h (passed s lt at was is under) = let n = number_of k (2 * start + 2) (sym h ∙ is) in omega (arith, n)

      cover : (j : ℕ) → Returns parents j → marking.Came parents start old new first met low size m w j → slice_get new j ≢ Some 0 → j < length last → f ≤ j
      cover j r (marking.kept same) h within = lower_old first f j lower (m.covered j (λ e. h (same ∙ e)) (omega (arith, within, size, size2)) r)
      cover j r (marking.passed s lt at was is under) h within =
          let leads = leads_back parents (w.steps - s) j c r (marking.end_of parents start old new first met low size m w s j lt at ∙ there) in
          let l = least_under leads.0 j leads.1 in
          let b = lower_least first f lower in
          omega (arith, l, b)
