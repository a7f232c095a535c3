use Rattle.std.proofs.Common.{append_assoc}
use Rattle.jr_dependence_lines.proofs.tallies.line_string.Goals as goal

pub returns : goal.returns
returns c = simp append_assoc c.format.ensures.ok
