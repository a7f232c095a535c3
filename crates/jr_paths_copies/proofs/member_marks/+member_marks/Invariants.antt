use Rattle.std.proofs.Common.{◌+◌, ◌*◌, ◌≡◌, take, map, Option}
use Rattle.std.specs.Fn.{FnReturnsAt}
use Rattle.jr_ast.specs.View.{class_of, member_of, members_of}
use Rattle.jr_ast.specs.Remarked as maps
use Rattle.jr_paths_copies.specs.Same as same
use Rattle.jr_ast.proofs.Sizes.{member_size, class_size, members_size}
use Rattle.jr_paths_copies.proofs.member_marks.+member_marks.Given as goal

abbrev pub decreases-member : goal.decreases-member
decreases-member g l = 3 * member_size (member_of l.of.now)

abbrev pub decreases-class : goal.decreases-class
decreases-class g l = 3 * class_size (class_of l.of.now)

abbrev pub decreases-members : goal.decreases-members
decreases-members g l = 3 * members_size (members_of l.parts.now) + 1

-- the copies so far are those of the parts so far
abbrev pub invariant-members-loop-part : goal.invariant-members-loop-part
invariant-members-loop-part g l =
    (h : g.row.B.Denot → Option g.row.B.Denot) (k : g.row.A.Denot → Option g.row.B.Denot) → same.Agree (FnReturnsAt g.F.Fn l.f) h k
    → map (λ x. maps.map_member h (member_of x)) l.copies.items ≡ map (λ x. maps.map_member k (member_of x)) (take l.part-index l.parts)
