use Rattle.std.proofs.Common.{◌∙◌}
use Rattle.jr_table.proofs.SameKinds.{derived_is}
use Rattle.jr_table.proofs.signatures.Signatures.has.Goals as goal

pub returns : goal.returns
returns c = c.contains.ensures ∙ derived_is c.args.self.now.lists.keys c.args.params.now
