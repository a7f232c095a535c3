use Rattle.std.proofs.Common.{◌∙◌}
use Rattle.jr_new_words.specs.Scopes.{rows_in, renaming_in}
use Rattle.jr_rename.specs.Pairs.{pairs_view}
use Rattle.jr_rename.proofs.Changing.{next}
use Rattle.jr_rename.proofs.pairs.changed_pairs.Goals as goal

pub loop-number-preserved : goal.loop-number-preserved
loop-number-preserved c =
    let p = c.args.programs.now in
    next (renaming_in p) (rows_in p) c.rows-before.result.now c.rows-after.result.now c.rows-before.ensures (c.rows-after.ensures ∙ c.requires) c.loop-number.number c.index-before-number.result c.index-after-number.result
    (pairs_view c.loop-number.pairs.items) (pairs_view c.push_changed.new.pairs.items) c.loop-number-test.true c.loop-number.invariant c.in_ok-push_changed.ensures
