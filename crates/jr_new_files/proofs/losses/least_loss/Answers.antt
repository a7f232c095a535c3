use Rattle.std.proofs.Common.{◌+◌, ◌∙◌, length, sym, subst, arith}
use Rattle.std.proofs.lemmas.List.{length-map}
use Rattle.jr_new_words.specs.ChoiceView.{lost_of}
use Rattle.jr_new_bodies.specs.OutputView.{losses_in}
use Rattle.jr_new_files.proofs.Losing.{IsBest, positive, first_of, step_then, step_else, all_best}
use Rattle.jr_new_files.proofs.losses.least_loss.Goals as goal
use Rattle.jr_new_files.proofs.losses.least_loss.Goals.{then-place_of, else-place_of}

pub loop-number-init : goal.loop-number-init
loop-number-init c = first_of c.args.losses.now (positive (length c.args.losses.now) (sym c.is_empty.ensures ∙ c.if-is_empty.false))

pub loop-number-preserved : goal.loop-number-preserved
loop-number-preserved c =
    let ls = c.args.losses.now in
    elim c.if-place_of.branch [
      | then-place_of w ↦ subst (IsBest (losses_in ls) (c.loop-number.number + 1)) (sym w.best-is) (step_then ls c.loop-number.number c.loop-number.best _ _ c.loop-number.invariant c.place_of.ensures c.place_of-in-loop-number.ensures w.if-place_of.true)
      | else-place_of w ↦ subst (IsBest (losses_in ls) (c.loop-number.number + 1)) (sym w.best-is) (step_else ls c.loop-number.number c.loop-number.best _ _ c.loop-number.invariant c.place_of.ensures c.place_of-in-loop-number.ensures w.if-place_of.false)
    ]

pub returns-clause-some : goal.returns-clause-some
returns-clause-some c = all_best (losses_in c.args.losses.now) c.loop-number.number c.loop-number.best c.loop-number.invariant (omega (arith, length-map c.args.losses.now lost_of, c.loop-number-test.false))
