use Rattle.std.proofs.Common.{◌+◌, ◌*◌, ◌≡◌, ◌++◌, drop, map}
use Rattle.jr_ast.specs.View.{class_of, member_of, members_of}
use Rattle.jr_ast.proofs.Sizes.{member_size, class_size, members_size}
use Rattle.jr_build_declared.specs.Fitting.{begins_by}
use Rattle.jr_table.specs.DeclaredItems.{members_declarations}
use Rattle.jr_build_declared.specs.Gathers.{in_file}
use Rattle.jr_build_declared.specs.DeclaredView.{declaration_of, declaration_key_of}
use Rattle.jr_build_declared.proofs.gathering.+gathering.Given as goal

abbrev pub decreases-member : goal.decreases-member
decreases-member g l = 3 * member_size (member_of l.member.now)

abbrev pub decreases-class : goal.decreases-class
decreases-class g l = 3 * class_size (class_of l.class.now)

abbrev pub decreases-members : goal.decreases-members
decreases-members g l = 3 * members_size (members_of l.members.now) + 1

-- what is gathered, with what is left, is all
abbrev pub invariant-members-loop-part : goal.invariant-members-loop-part
invariant-members-loop-part g l =
    map declaration_of l.declarations.items ++ in_file l.at.file (members_declarations (begins_by g.A.Mark.span_from) l.at.base (declaration_key_of l.of) (members_of (drop l.part-index l.members)))
    ≡ map declaration_of l.initial.declarations.items ++ in_file l.at.file (members_declarations (begins_by g.A.Mark.span_from) l.at.base (declaration_key_of l.of) (members_of l.members))
