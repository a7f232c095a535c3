use Rattle.std.proofs.Common.{◌≤◌, ◌+◌, map, take}
use Rattle.jr_members.specs.PartView.{written_of}
use Rattle.jr_program.specs.Members.{AreKnown, AreEachBound}
use Rattle.jr_program.proofs.FileOrder.{StayInOrder}
use Rattle.jr_program.proofs.bounds.bind_members.Given as goal

abbrev pub invariant-loop-member : goal.invariant-loop-member
invariant-loop-member g l = AreKnown l.table l.tokens (map written_of (take l.member-index l.written)) l.bounds.items
    × ((l.initial.steps ≤ l.steps) × (l.steps ≤ l.initial.steps + l.member-index))
    × (StayInOrder (map written_of l.written) l.member-index l.bounds.items
    × AreEachBound l.table l.tokens (map written_of (take l.member-index l.written)) l.bounds.items)
