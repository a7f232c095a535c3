use Rattle.std.proofs.Common.{ℕ, sym, subst, refl, take}
use Rattle.std.specs.Io.KnownBytes.{Appends, WriteAppends}
use Rattle.jr_shelf.proofs.InPart.{Took, Took-more, Took-kept, Took-prefix}
use Rattle.jr_shelf.proofs.transfers.write_whole.Goals as goal
use Rattle.jr_shelf.proofs.transfers.write_whole.Goals.{in-Ok, in-Err, else-loop-test, then-loop-test+else-is_empty+in-Ok-eq0, then-loop-test+else-is_empty+in-Err-2}

pub loop-preserved : goal.loop-preserved
loop-preserved g c =
    let contents = g.W.Write.contents in
    record {
      took = elim c.match-write.branch [
        | in-Ok w ↦ subst (λ rest. Took (contents c.args.to.now) (contents c.write.new.self) c.args.bytes.now rest.now) (sym w.rest-is) (Took-more _ _ _ _ _ _ c.loop.invariant.took w.in-Ok.ensures.bytes)
        | in-Err w ↦ subst (λ rest. Took (contents c.args.to.now) (contents c.write.new.self) c.args.bytes.now rest.now) (sym w.rest-is) (Took-kept _ _ _ _ _ c.loop.invariant.took w.in-Err.ensures.bytes)
      ];
      unfailed = refl;
    }

pub returns-clause-in_part : goal.returns-clause-in_part
returns-clause-in_part g c =
    let contents = g.W.Write.contents in
    let before = contents c.args.to.now in
    let In : _ → Type 0 = λ to. (n : ℕ) × Appends before (contents to) (take n c.args.bytes.now) in
    elim c.loop-test.branch [
      | else-loop-test w ↦ subst In (sym w.to-is) (Took-prefix _ _ _ _ c.loop.invariant.took)
      | then-loop-test+else-is_empty+in-Ok-eq0 w ↦
          let took = subst (λ r. WriteAppends (contents c.loop.to) (contents w.write.new.self) r c.loop.rest.now) w.in-Ok-eq0.is w.write.ensures.bytes in
          subst In (sym w.to-is) (Took-prefix _ _ _ _ (Took-more _ _ _ _ _ _ c.loop.invariant.took took))
      | then-loop-test+else-is_empty+in-Err-2 w ↦ subst In (sym w.to-is) (Took-prefix _ _ _ _ (Took-kept _ _ _ _ _ c.loop.invariant.took w.in-Err.ensures.bytes))
    ]
