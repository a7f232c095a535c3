use Rattle.jr_splice.proofs.Parts as parts
use Rattle.jr_splice.proofs.laws.parts_spell.Goals as goal

pub returns : goal.returns
returns c = parts.parts_spell
