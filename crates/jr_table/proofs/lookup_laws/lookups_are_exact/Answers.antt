use Rattle.jr_table.proofs.LookupLaws.{numbers_found, keys_found, one_answers}
use Rattle.jr_table.proofs.lookup_laws.lookups_are_exact.Goals as goal

pub returns-clause-numbers : goal.returns-clause-numbers
returns-clause-numbers c = numbers_found

pub returns-clause-keys : goal.returns-clause-keys
returns-clause-keys c = keys_found

pub returns-clause-one : goal.returns-clause-one
returns-clause-one c = one_answers
