use Rattle.std.proofs.Common.{◌≡◌, drop, map}
use Rattle.jr_new_bodies.specs.Spotting.{find_part}
use Rattle.jr_new_bodies.specs.SpotView.{part_of}
use Rattle.jr_new_bodies.proofs.spots.find_part.Given as goal

-- none of those so far
abbrev pub invariant-loop-part : goal.invariant-loop-part
invariant-loop-part l = find_part l.at (map part_of (drop l.part-index l.parts)) ≡ find_part l.at (map part_of l.parts)
