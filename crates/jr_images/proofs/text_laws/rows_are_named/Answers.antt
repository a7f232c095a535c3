use Rattle.jr_images.proofs.IdentifierNames.{without_dot}
use Rattle.jr_images.proofs.RowNames.{rows_named}
use Rattle.jr_images.proofs.text_laws.rows_are_named.Goals as goal

pub returns-clause-rows : goal.returns-clause-rows
returns-clause-rows A c = rows_named (λ bytes u h. (c.reads_are_grammar.ensures.unit bytes u h).lexical)

pub returns-clause-names : goal.returns-clause-names
returns-clause-names A c = without_dot
