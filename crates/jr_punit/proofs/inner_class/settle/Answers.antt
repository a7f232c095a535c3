use Rattle.std.proofs.Common.{◌∙◌, sym, subst}
use Rattle.jr_ast.specs.View.{members_of}
use Rattle.jr_punit_laws.specs.ClassMachine as Classes
use Rattle.jr_punit_members.specs.OwnView.{own_state}
use Rattle.jr_pstmt.specs.InPlace.{GoesTo}
use Rattle.jr_pstmt.specs.OwnMachine as Own
use Rattle.jr_punit.proofs.ClassSteps.{inner_within, inner_behind, settles}
use Rattle.jr_punit.proofs.inner_class.settle.Goals as goal

pub returns-then-is_done : goal.returns-then-is_done
returns-then-is_done c h =
    let all = members_of c.args.all.now.items in
    subst (GoesTo c.take_member.result (Classes.in_members h (members_of c.take_member.new.all.items) (own_state c.take_member.new.member)))
    (sym (settles (inner_within h all) (inner_behind h all) Own.whole (own_state c.args.member.now) (sym c.is_done.ensures ∙ c.if-is_done.true)))
    (c.take_member.ensures h)
