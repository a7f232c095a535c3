use Rattle.std.proofs.Common.{◌∙◌, false, sym, ap, subst}
use Rattle.std.specs.Prelude.{option_map}
use Rattle.jr_ast.specs.View.{members_of}
use Rattle.jr_pexpr.specs.Marked.{join}
use Rattle.jr_pexpr.specs.TokenView.{token_view}
use Rattle.jr_punit_laws.specs.ClassMachine as Classes
use Rattle.jr_punit.specs.ClassView.{class_head, top_read, member_state, class_state}
use Rattle.jr_pstmt.specs.InPlace.{GoesTo}
use Rattle.jr_punit_laws.specs.UnitMachine as Units
use Rattle.jr_punit_laws.specs.MemberMachine as Members
use Rattle.jr_punit.proofs.ClassSteps.{top_goes}
use Rattle.jr_punit.proofs.class_state.ClassState.step.Goals as goal

pub returns-else-ends : goal.returns-else-ends
returns-else-ends c =
    let h = class_head c.in-Members.head.value in
    let all = members_of c.in-Members.all.items in
    subst (GoesTo c.member_on.result (Classes.in_members h (members_of c.member_on.new.all.items) (member_state c.member_on.new.member)))
    (sym (top_goes h all (member_state c.in-Members.member) c.args.at (token_view c.args.token) (sym c.ends.ensures ∙ c.if-ends.false))
    ∙ ap (λ s. Units.class_step join (class_state s) c.args.at (token_view c.args.token)) (sym c.in-Members.is))
    (subst (λ b. GoesTo c.member_on.result (Classes.in_members (class_head b) (members_of c.member_on.new.all.items) (member_state c.member_on.new.member))
    (option_map (top_read (class_head b) all) (Members.step join false (class_head b).word.text (member_state c.in-Members.member) c.args.at (token_view c.args.token))))
    c.deref.ensures c.member_on.ensures)
