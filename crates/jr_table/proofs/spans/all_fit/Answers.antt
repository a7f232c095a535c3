use Rattle.std.proofs.Common.{◌≡◌, ◌<◌, ◌+◌, ℕ, inl, inr, subst, sym, arith}
use Rattle.std.specs.Prelude.{◌⊎◌}
use Rattle.jr_table.specs.Spans.{Fits}
use Rattle.jr_table.proofs.spans.all_fit.Goals as goal

split : (a b : ℕ) → a < b + 1 → (a < b) ⊎ (b ≡ a)
split a b h = grind arith

pub loop-at-preserved : goal.loop-at-preserved
loop-at-preserved c k lt = by (split k c.loop-at.at lt)
  where
    by : ((k < c.loop-at.at) ⊎ (c.loop-at.at ≡ k)) → Fits c.args.entries.now c.args.numbered.now k
    by (inl l) = c.loop-at.invariant k l
    by (inr e) = subst (Fits c.args.entries.now c.args.numbered.now) e (c.fits.ensures c.if-not-fits.false)

pub returns : goal.returns
returns c = λ t. record {
  each = λ k lt. let past = c.loop-at-test.false in c.loop-at.invariant k (omega (arith, lt, past));
  entered = let n = c.len.ensures in let e = c.if-len-entries.false in let ok = c.args.numbered.now.enter.ok in omega (arith, n, e, ok);
  left = let n = c.len-2.ensures in let e = c.if-len-entries-2.false in let ok = c.args.numbered.now.exit.ok in omega (arith, n, e, ok);
}
