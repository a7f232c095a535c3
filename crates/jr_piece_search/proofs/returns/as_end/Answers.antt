use Rattle.std.proofs.Common.{◌∙◌}
use Rattle.jr_piece_search.proofs.returns.as_end.Goals as goal

pub returns-in-None : goal.returns-in-None
returns-in-None c = λ s h base. h base ∙ c.in-None.is

pub returns-in-Some : goal.returns-in-Some
returns-in-Some c = λ s h base. h base ∙ c.in-Some.is
