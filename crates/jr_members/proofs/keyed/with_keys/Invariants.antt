use Rattle.std.proofs.Common.{◌≡◌, ◌++◌, map}
use Rattle.jr_members.specs.Fitting.{begins_by}
use Rattle.jr_members.specs.PartView.{placed_of, written_of}
use Rattle.jr_members.specs.WrittenMembers as members
use Rattle.jr_members.proofs.keyed.with_keys.Given as goal

-- what is made, with what is left, is all
abbrev pub invariant-loop-placed : goal.invariant-loop-placed
invariant-loop-placed g l =
    map written_of l.members.items ++ members.members_at (begins_by g.A.Mark.span_from) l.table l.row (map placed_of l.placed-iterator.rest.items)
    ≡ members.members_at (begins_by g.A.Mark.span_from) l.table l.first (map placed_of l.fn.parts.items)
