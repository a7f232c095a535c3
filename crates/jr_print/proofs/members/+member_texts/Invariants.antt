use Rattle.std.proofs.Common.{◌+◌, ◌*◌, ◌≡◌, ◌++◌, drop}
use Rattle.std.specs.Prelude.{string_bytes}
use Rattle.jr_ast.specs.View.{member_of, members_of, class_of}
use Rattle.jr_ast.proofs.Sizes.{member_size, members_size, class_size}
use Rattle.jr_print.specs.MemberText.{printed_members}
use Rattle.jr_print.proofs.members.+member_texts.Given as goal

abbrev pub decreases-member : goal.decreases-member
decreases-member g l = 4 * member_size (member_of l.of.now)

abbrev pub decreases-class : goal.decreases-class
decreases-class g l = 4 * class_size (class_of l.of.now)

abbrev pub decreases-members : goal.decreases-members
decreases-members g l = 4 * members_size (members_of l.parts.now) + 1

-- what is printed, with what is left, is all
abbrev pub invariant-members-loop-part : goal.invariant-members-loop-part
invariant-members-loop-part g l = string_bytes l.out ++ printed_members (members_of (drop l.part-index l.parts)) ≡ string_bytes l.initial.out ++ printed_members (members_of l.parts)
