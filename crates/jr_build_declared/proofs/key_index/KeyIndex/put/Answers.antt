use Rattle.std.proofs.Common.{◌≡◌, Some, refl}
use Rattle.jr_build_declared.proofs.KeyLaws.{key_tests, puts}
use Rattle.jr_build_declared.proofs.key_index.KeyIndex.put.Goals as goal

pub returns-clause-put : goal.returns-clause-put
returns-clause-put c = λ k. puts c.args.key.now.name _ (key_tests _ (λ x y. refl)) c.args.key.now c.args.self.now.numbers c.insert.new.self (Some c.args.number) c.in_ok-before.ensures.updates k
