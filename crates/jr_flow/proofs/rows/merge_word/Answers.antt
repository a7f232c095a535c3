use Rattle.std.proofs.Common.{get_or, rules}
use Rattle.std.proofs.lemmas.Bool.{eqb-true, eqb-false, not-true, not-false}
use Rattle.jr_flow.proofs.Words.{moves_added}
use Rattle.jr_flow.proofs.rows.merge_word.Goals as goal

pub returns-clause-moves : goal.returns-clause-moves
returns-clause-moves c =
    moves_added c.args.words.now c.args.to (get_or c.args.words.now c.args.from 0) _ c.requires.to (search rules) (λ e. eqb-true _ _ (not-false _ e)) (λ e. eqb-false _ _ (not-true _ e))
