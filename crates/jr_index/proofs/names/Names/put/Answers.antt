use Rattle.std.proofs.lemmas.Map.Text.{hash_map_updates_str}
use Rattle.jr_index.proofs.names.Names.put.Goals as goal

pub returns-clause-put : goal.returns-clause-put
returns-clause-put c q = hash_map_updates_str c.args.name.now c.args.self.now.numbers c.insert.new.self _ c.in_ok-before.ensures.updates q
