-- The marks after the way upwards from one class more.
use Rattle.std.proofs.Common.{◌≡◌, ◌≢◌, ℕ, ◌+◌, ◌*◌, ◌-◌, ◌<◌, ◌≤◌, List, length, Option, Some, None, sym, ap, subst, ◌∙◌, arith, inl, inr}
use Rattle.std.specs.Prelude.{◌⊎◌, slice_get, MatchOption}
use Rattle.jr_index.specs.Parents.{up, next, Returns}
use Rattle.jr_index.specs.Walked.{Walked}
use Rattle.jr_index.specs.Cycles.{AreMarked}
use Rattle.jr_index.proofs.Parity.{parity}
use Rattle.jr_index.proofs.Returning.{up-rest, up-one, leads_back, never_ends, along}

apart : (a b : ℕ) → a ≢ b → Some a ≢ Some b
apart a b h e = h cc

module _ (parents : List (Option ℕ)) (start : ℕ) (old new : List ℕ) (first met : Option ℕ) (low : ℕ) (size : length new ≡ length old)
    (m : AreMarked parents start old first) (w : Walked parents start 0 (2 * start + 1) old new met low) where
  -- how the mark of a class came about
  pub data Came (j : ℕ) : Type 0 where
    kept : (same : slice_get new j ≡ slice_get old j) → Came j
    passed : (s : ℕ) (lt : s < w.steps) (at : up s parents start ≡ Some j) (was : slice_get old j ≡ Some 0) (is : slice_get new j ≡ Some (2 * start + 1)) (least : low ≤ j) → Came j

  pub came : (j : ℕ) → Came j
  came j = of (w.others j)
    where
      of : ((slice_get new j ≡ slice_get old j) ⊎ ((s : ℕ) × (s < w.steps) × (up s parents start ≡ Some j))) → Came j
      of (inl same) = kept same
      of (inr (s, lt, at)) =
          let p = w.passes s lt in
          let e : Some p.class ≡ Some j = sym p.reached ∙ at in
          let same : p.class ≡ j = cc in
          passed s lt at (subst (λ (x : ℕ). slice_get old x ≡ Some 0) same p.was_free) (subst (λ (x : ℕ). slice_get new x ≡ Some (2 * start + 1)) same p.stamped) (subst (λ (x : ℕ). low ≤ x) same p.least)

  stamp_is : (j : ℕ) → slice_get new j ≡ Some (2 * start + 1) → slice_get new j ≢ Some 0
  stamp_is j h e = apart (2 * start + 1) 0 (λ i. absurd (omega arith)) (sym h ∙ e)

  still : (j : ℕ) → slice_get old j ≢ Some 0 → slice_get new j ≢ Some 0
  still j h = by (came j)
    where
      by : Came j → slice_get new j ≢ Some 0
      by (kept same) e = h (sym same ∙ e)
      by (passed s lt at was is least) e = h was

  pub stamps : (j k : ℕ) → slice_get new j ≡ Some k → k < 2 * start + 2
  stamps j k h = by (came j)
    where
      by : Came j → k < 2 * start + 2
      by (kept same) = let l = m.stamps j k (sym same ∙ h) in omega arith
      by (passed s lt at was is least) = let e : Some k ≡ Some (2 * start + 1) = sym h ∙ is in let n : k ≡ 2 * start + 1 = cc in omega arith

  started : slice_get new start ≢ Some 0
  unfolding up
  started = from (some w.steps)
    where
      some : (n : ℕ) → (n ≡ 0) ⊎ (0 < n)
      some n = grind arith

      from : ((w.steps ≡ 0) ⊎ (0 < w.steps)) → slice_get new start ≢ Some 0
      from (inr positive) = let p = w.passes 0 positive in let e : Some start ≡ Some p.class = p.reached in let same : start ≡ p.class = cc in stamp_is start (subst (λ (x : ℕ). slice_get new x ≡ Some (2 * start + 1)) (sym same) p.stamped)
      from (inl none) = ends met w.ends
        where
          ends : (o : Option ℕ) → MatchOption o (up w.steps parents start ≡ None) (λ c. (up w.steps parents start ≡ Some c) × (slice_get new c ≢ Some 0)) → slice_get new start ≢ Some 0
          ends None h = let e : Some start ≡ None = ap (λ n. up n parents start) (sym none) ∙ h in absurd cc
          ends (Some c) (there, not_free) = let e : Some start ≡ Some c = ap (λ n. up n parents start) (sym none) ∙ there in let same : start ≡ c = cc in subst (λ (x : ℕ). slice_get new x ≢ Some 0) (sym same) not_free

  pub closed : (j p : ℕ) → slice_get new j ≢ Some 0 → next parents j ≡ Some p → slice_get new p ≢ Some 0
  closed j p h up_is = by (came j)
    where
      ended : (s : ℕ) → s + 1 ≡ w.steps → up (s + 1) parents start ≡ Some p → slice_get new p ≢ Some 0
      ended s e at = ends met w.ends
        where
          ends : (o : Option ℕ) → MatchOption o (up w.steps parents start ≡ None) (λ c. (up w.steps parents start ≡ Some c) × (slice_get new c ≢ Some 0)) → slice_get new p ≢ Some 0
          ends None none = let i : Some p ≡ None = sym at ∙ ap (λ n. up n parents start) e ∙ none in absurd cc
          ends (Some c) (there, not_free) =
              let i : Some c ≡ Some p = sym there ∙ ap (λ n. up n parents start) (sym e) ∙ at in
              let same : c ≡ p = cc in
              subst (λ (x : ℕ). slice_get new x ≢ Some 0) same not_free

      by : Came j → slice_get new p ≢ Some 0
      by (kept same) = still p (m.closed j p (λ e. h (same ∙ e)) up_is)
      by (passed s lt at was is least) = near (split s w.steps lt)
        where
          more : up (s + 1) parents start ≡ Some p
          more = up-rest parents s 1 start j at ∙ up-one parents j p up_is

          split : (s n : ℕ) → s < n → (s + 1 < n) ⊎ (s + 1 ≡ n)
          split s n h = grind arith

          near : ((s + 1 < w.steps) ⊎ (s + 1 ≡ w.steps)) → slice_get new p ≢ Some 0
          near (inl before) =
              let q = w.passes (s + 1) before in
              let e : Some q.class ≡ Some p = sym q.reached ∙ more in
              let same : q.class ≡ p = cc in
              stamp_is p (subst (λ (x : ℕ). slice_get new x ≡ Some (2 * start + 1)) same q.stamped)
          near (inr last) = ended s last more

  pub done : (j : ℕ) → j < start + 1 → slice_get new j ≢ Some 0
  done j lt = by (split j start lt)
    where
      split : (a b : ℕ) → a < b + 1 → (a < b) ⊎ (a ≡ b)
      split a b h = grind arith

      by : ((j < start) ⊎ (j ≡ start)) → slice_get new j ≢ Some 0
      by (inl before) = still j (m.done j before)
      by (inr is) = subst (λ (x : ℕ). slice_get new x ≢ Some 0) (sym is) started

  -- what a new class leads to in the end
  pub end_of : (s j : ℕ) → s < w.steps → up s parents start ≡ Some j → up (w.steps - s) parents j ≡ up w.steps parents start
  end_of s j lt at = let e : s + (w.steps - s) ≡ w.steps = omega arith in sym (up-rest parents s (w.steps - s) start j at) ∙ ap (λ n. up n parents start) e

  -- where the walk comes to the top or to a class that an earlier walk passed, no class that it passed is on a cycle
  pub covered : ((s j : ℕ) → s < w.steps → up s parents start ≡ Some j → slice_get old j ≡ Some 0 → Returns parents j → ⊥)
      → (j : ℕ) → slice_get new j ≢ Some 0 → j < length new → Returns parents j → MatchOption first ⊥ (λ f. f ≤ j)
  covered none j h within r = by (came j)
    where
      by : Came j → MatchOption first ⊥ (λ f. f ≤ j)
      by (kept same) = m.covered j (λ e. h (same ∙ e)) (omega (arith, size)) r
      by (passed s lt at was is least) = absurd (none s j lt at was r)

  pub none_at_top : up w.steps parents start ≡ None → (s j : ℕ) → s < w.steps → up s parents start ≡ Some j → slice_get old j ≡ Some 0 → Returns parents j → ⊥
  none_at_top top s j lt at was r = never_ends parents (w.steps - s) j r (end_of s j lt at ∙ top)

  pub none_below_old : (c : ℕ) → up w.steps parents start ≡ Some c → slice_get old c ≢ Some 0 → (s j : ℕ) → s < w.steps → up s parents start ≡ Some j → slice_get old j ≡ Some 0 → Returns parents j → ⊥
  none_below_old c there not_free s j lt at was r =
      let back = leads_back parents (w.steps - s) j c r (end_of s j lt at ∙ there) in
      along parents (λ x. slice_get old x ≢ Some 0) m.closed back.0 c j back.1 not_free was

  pub old_where_not_new : (c : ℕ) → slice_get new c ≢ Some 0 → slice_get new c ≢ Some (2 * start + 1) → slice_get old c ≢ Some 0
  old_where_not_new c marked differs = by (came c)
    where
      by : Came c → slice_get old c ≢ Some 0
      by (kept same) e = marked (same ∙ e)
      by (passed s lt at was is least) e = differs is

  -- no new cycle: the marks are as they have to be
  pub marked_on : ((s j : ℕ) → s < w.steps → up s parents start ≡ Some j → slice_get old j ≡ Some 0 → Returns parents j → ⊥) → AreMarked parents (start + 1) new first
  marked_on none = record {
    stamps = λ j k h. let l = stamps j k h in omega (arith, l);
    closed = closed;
    done = done;
    covered = covered none;
    even = λ j k h. even j k h (came j);
    odd = λ j k h r. odd j k h r (came j);
    sound = sound first m.sound;
  }
    where
      even : (j k : ℕ) → slice_get new j ≡ Some (2 * k + 2) → Came j → Returns parents j
      even j k h (kept same) = m.even j k (sym same ∙ h)
      even j k h (passed s lt at was is least) = let e : Some (2 * k + 2) ≡ Some (2 * start + 1) = sym h ∙ is in let n : 2 * k + 2 ≡ 2 * start + 1 = cc in absurd (parity k start n)

      odd : (j k : ℕ) → slice_get new j ≡ Some (2 * k + 1) → Returns parents j → Came j → ⊥
      odd j k h r (kept same) = m.odd j k (sym same ∙ h) r
      odd j k h r (passed s lt at was is least) = none s j lt at was r

      sound : (o : Option ℕ) → MatchOption o (Unit {0}) (λ f. (f < length old) × Returns parents f) → MatchOption o (Unit {0}) (λ f. (f < length new) × Returns parents f)
      sound None h = h
      sound (Some f) h = let n = h.0 in (omega (arith, n, size), h.1)
