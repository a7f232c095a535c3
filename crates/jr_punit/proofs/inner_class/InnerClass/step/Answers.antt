use Rattle.std.proofs.Common.{◌∙◌, sym, ap, subst}
use Rattle.std.specs.Prelude.{option_map, ◌&&◌}
use Rattle.jr_ast.specs.View.{members_of}
use Rattle.jr_pexpr.specs.Marked.{join}
use Rattle.jr_pexpr.specs.TokenView.{token_view}
use Rattle.jr_punit_laws.specs.ClassMachine as Classes
use Rattle.jr_punit.specs.ClassView.{class_head, inner_read, inner_class}
use Rattle.jr_pstmt.specs.CueTests.{is_close_brace}
use Rattle.jr_pstmt.specs.Cues.{cue_of}
use Rattle.jr_pstmt.specs.InPlace.{GoesTo}
use Rattle.jr_punit_laws.specs.MemberMachine as Members
use Rattle.jr_punit_members.specs.OwnView.{own_state}
use Rattle.jr_pstmt.specs.OwnMachine as Own
use Rattle.jr_punit.proofs.ClassSteps.{inner_goes}
use Rattle.jr_punit.proofs.inner_class.InnerClass.step.Goals as goal

pub returns-else-ends : goal.returns-else-ends
returns-else-ends c =
    let h = class_head c.in-Members.head.value in
    let all = members_of c.in-Members.all.items in
    subst (GoesTo c.member_on.result (Classes.in_members h (members_of c.member_on.new.all.items) (own_state c.member_on.new.member)))
    (sym (inner_goes h all (own_state c.in-Members.member.value) c.args.at (token_view c.args.token) (ap (λ b. Own.is_start (own_state b) && is_close_brace (cue_of (token_view c.args.token))) (sym c.deref.ensures) ∙ sym c.ends.ensures ∙ c.if-ends.false))
    ∙ ap (λ s. Members.inner_step join (inner_class s) c.args.at (token_view c.args.token)) (sym c.in-Members.is))
    (subst (λ b. GoesTo c.member_on.result (Classes.in_members (class_head b) (members_of c.member_on.new.all.items) (own_state c.member_on.new.member))
    (option_map (inner_read (class_head b) all) (Own.step join (class_head b).word.text (own_state c.in-Members.member.value) c.args.at (token_view c.args.token))))
    c.deref-else-ends.ensures
    (subst (λ o. GoesTo c.member_on.result (Classes.in_members (class_head c.deref-else-ends.result.now) (members_of c.member_on.new.all.items) (own_state c.member_on.new.member))
    (option_map (inner_read (class_head c.deref-else-ends.result.now) all) (Own.step join (class_head c.deref-else-ends.result.now).word.text (own_state o) c.args.at (token_view c.args.token))))
    c.deref_mut.ensures.value c.member_on.ensures))
