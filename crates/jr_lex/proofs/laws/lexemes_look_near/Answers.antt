use Rattle.jr_lex.proofs.OneLexeme.{cut_near}
use Rattle.jr_lex.proofs.laws.lexemes_look_near.Goals as goal

pub returns : goal.returns
returns c = cut_near
