use Rattle.std.proofs.Common.{◌<◌, ◌+◌, None, length, arith, inl, refl, ap, ◌∙◌, add-one}
use Rattle.std.proofs.Math.ListN.{length-set}
use Rattle.std.specs.Prelude.{option_and_then}
use Rattle.std.proofs.lemmas.Option.{slice_get-get_or}
use Rattle.jr_index.specs.Parents.{up, next}
use Rattle.jr_index.proofs.Walking.{up-suc, passed_more, next_is}
use Rattle.jr_index.proofs.cycles.ascend.Goals as goal

pub loop-marks-init : goal.loop-marks-init
unfolding up
loop-marks-init c = record {
  size = refl;
  within = c.requires.from;
  walking = record {
    steps = 0;
    here = refl;
    passes = λ s lt. absurd (omega arith);
    others = λ x. inl refl;
    least = (0, omega arith, refl);
    passes_least = λ positive. absurd (omega arith);
  };
}

pub loop-marks-preserved : goal.loop-marks-preserved
loop-marks-preserved c =
    let w = c.loop-marks.invariant.walking in
    let class = c.loop-marks.class in
    let n = next_is c.args.parents.now class _ c.in-Some.is in
    let size = c.loop-marks.invariant.size in
    let p = passed_more _ _ _ _ _ c.loop-marks.marks class c.loop-marks.least _ c.requires.differ (omega (arith, c.loop-marks.invariant.within)) c.loop-marks-test.true c.min-least.ensures w in
    record {
      size = simp length-set size;
      within = c.requires.within class c.in-Some.parent n;
      walking = record {
        steps = w.steps + 1;
        here = ap (λ k. up k c.args.parents.now c.args.from) (add-one w.steps) ∙ up-suc w.steps c.args.parents.now c.args.from ∙ ap (option_and_then (next c.args.parents.now)) w.here ∙ n;
        passes = p.passes;
        others = p.others;
        least = (p.least.0, omega (arith, p.least.1), p.least.2);
        passes_least = λ _. p.least;
      };
    }

pub returns-in-None-clause-walked : goal.returns-in-None-clause-walked
returns-in-None-clause-walked c =
    let w = c.loop-marks.invariant.walking in
    let class = c.loop-marks.class in
    let n = next_is c.args.parents.now class None c.in-None.is in
    let p = passed_more _ _ _ _ _ c.loop-marks.marks class c.loop-marks.least _ c.requires.differ (omega (arith, c.loop-marks.invariant.within, c.loop-marks.invariant.size)) c.loop-marks-test.true c.min-least.ensures w in
    record {
      steps = w.steps + 1;
      passes = p.passes;
      others = p.others;
      ends = ap (λ k. up k c.args.parents.now c.args.from) (add-one w.steps) ∙ up-suc w.steps c.args.parents.now c.args.from ∙ ap (option_and_then (next c.args.parents.now)) w.here ∙ n;
      least = λ _. p.least;
    }

pub returns-clause-walked : goal.returns-clause-walked
returns-clause-walked c =
    let w = c.loop-marks.invariant.walking in
    let within : c.loop-marks.class < length c.loop-marks.marks = omega (arith, c.loop-marks.invariant.within, c.loop-marks.invariant.size) in
    record {
      steps = w.steps;
      passes = w.passes;
      others = w.others;
      ends = (w.here, λ e. let at = slice_get-get_or c.loop-marks.marks c.loop-marks.class 0 within in c.loop-marks-test.false (cc));
      least = w.passes_least;
    }
