use Rattle.std.proofs.Common.{[], sym, subst}
use Rattle.jr_lex.specs.Lexes.{Lexes}
use Rattle.jr_sources.proofs.Faulty.{nothing_lexes}
use Rattle.jr_sources.proofs.readings.faulty.Goals as goal

pub new-requires-2 : goal.new-requires-2
new-requires-2 c = ([], subst (Lexes []) (sym c.new.ensures.items) nothing_lexes)
