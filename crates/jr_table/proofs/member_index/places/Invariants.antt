use Rattle.std.proofs.Common.{◌≡◌, map, take}
use Rattle.jr_index.specs.Linked.{place_of}
use Rattle.jr_table.specs.MemberIndex.{member_place}
use Rattle.jr_table.proofs.member_index.places.Given as goal

abbrev pub invariant-loop-entry : goal.invariant-loop-entry
invariant-loop-entry l = map place_of l.places.items ≡ map member_place (take l.entry-index l.entries)
