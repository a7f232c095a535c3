use Rattle.jr_moved_tokens.proofs.MovedTokens.{untouched_tokens_move}
use Rattle.jr_moved_tokens.proofs.laws.untouched_tokens_move.Goals as goal

pub returns : goal.returns
returns g c = untouched_tokens_move c.one_answer.ensures.items c.items_are_placed.ensures.items _
