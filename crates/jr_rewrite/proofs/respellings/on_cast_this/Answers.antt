use Rattle.std.proofs.lemmas.List.{append_assoc}
use Rattle.jr_rewrite.proofs.respellings.on_cast_this.Goals as goal

pub returns : goal.returns
returns c = simp append_assoc c.format.ensures.ok
