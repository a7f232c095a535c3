use Rattle.std.proofs.Common.{◌∙◌, sym, subst}
use Rattle.jr_ast.specs.View.{members_of}
use Rattle.jr_punit_laws.specs.ClassMachine as Classes
use Rattle.jr_punit.specs.ClassView.{member_state}
use Rattle.jr_pstmt.specs.InPlace.{GoesTo}
use Rattle.jr_punit_laws.specs.MemberMachine as Members
use Rattle.jr_punit.proofs.ClassSteps.{top_within, top_behind, settles}
use Rattle.jr_punit.proofs.class_state.settle.Goals as goal

pub returns-then-is_done : goal.returns-then-is_done
returns-then-is_done c h =
    let all = members_of c.args.all.now.items in
    subst (GoesTo c.take_member.result (Classes.in_members h (members_of c.take_member.new.all.items) (member_state c.take_member.new.member)))
    (sym (settles (top_within h all) (top_behind h all) Members.whole (member_state c.args.member.now) (sym c.is_done.ensures ∙ c.if-is_done.true)))
    (c.take_member.ensures h)
