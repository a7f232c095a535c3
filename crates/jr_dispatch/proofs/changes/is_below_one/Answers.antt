use Rattle.std.proofs.Common.{◌≡◌, ℕ, ◌<◌, Some, get_or, refl, sym, ap, subst, ◌∙◌, inl, inr, arith}
use Rattle.std.specs.Prelude.{◌⊎◌, slice_get}
use Rattle.std.proofs.lemmas.Option.{slice_get_within}
use Rattle.jr_table.specs.Entries.{entries_of}
use Rattle.jr_table.specs.Chains.{IsSubclassAt}
use Rattle.jr_dispatch.proofs.Rounds.{below_next, item_at, place_in, in_place}
use Rattle.jr_dispatch.proofs.changes.is_below_one.Goals as goal

pub loop-low-init : goal.loop-low-init
loop-low-init c = λ i x l. absurd (omega (arith, l))

pub loop-low-preserved : goal.loop-low-preserved
loop-low-preserved c = λ i x l at s. by i x at s (below_next i c.loop-low.low-index l)
  where
    by : (i x : ℕ) → slice_get c.args.lows.now i ≡ Some x → IsSubclassAt (entries_of c.args.table.now) c.args.class x → ((i < c.loop-low.low-index) ⊎ (i ≡ c.loop-low.low-index)) → ⊥
    by i x at s (inl k) = c.loop-low.invariant i x k at s
    by i x at s (inr e) =
        let here = sym at ∙ ap (slice_get c.args.lows.now) e ∙ item_at c.args.lows.now c.loop-low.low-index 0 c.loop-low-test.true in
        let z : x ≡ get_or c.args.lows.now c.loop-low.low-index 0 = cc in
        let t = c.is_subclass_at.ensures.1 (subst (IsSubclassAt (entries_of c.args.table.now) c.args.class) z s) in
        let f = c.if-is_subclass_at.false in
        absurd cc

pub returns-then-is_subclass_at : goal.returns-then-is_subclass_at
returns-then-is_subclass_at c = (
  λ t. (_, place_in c.args.lows.now c.loop-low.low-index _ (item_at c.args.lows.now c.loop-low.low-index 0 c.loop-low-test.true), c.is_subclass_at.ensures.0 c.if-is_subclass_at.true),
  λ h. refl,
)

pub returns : goal.returns
returns c = (
  λ t. absurd cc,
  λ h.
      let p = in_place c.args.lows.now h.0 h.1 in
      let l = slice_get_within c.args.lows.now p.0 h.0 p.1 in
      let past = c.loop-low-test.false in
      absurd (c.loop-low.invariant p.0 h.0 (omega (arith, l, past)) p.1 h.2),
)
