use Rattle.jr_lex.proofs.Seams as seams
use Rattle.jr_lex.proofs.laws.seams_may_meet.Goals as goal

pub returns : goal.returns
returns c = record { statements = seams.statements; parens = seams.parens; words = seams.words }
