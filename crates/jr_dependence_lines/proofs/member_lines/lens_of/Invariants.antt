use Rattle.std.proofs.Common.{◌≡◌, length, map, take}
use Rattle.jr_dependence_lines.proofs.member_lines.lens_of.Given as goal

abbrev pub invariant-loop-text : goal.invariant-loop-text
invariant-loop-text l = l.lens.items ≡ map length (take l.text-index l.texts)
