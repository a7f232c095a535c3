use Rattle.std.proofs.Common.{sym, subst}
use Rattle.jr_ast.specs.View.{word_of}
use Rattle.jr_pstmt.specs.CueView.{cue_view}
use Rattle.jr_pstmt.specs.Cues as pure
use Rattle.jr_punit_members.specs.LeadView.{lead_view}
use Rattle.jr_pstmt.specs.TypeStateView.{type_state}
use Rattle.jr_pstmt.specs.OwnMachine as Own
use Rattle.jr_punit_laws.specs.MemberMachine as Members
use Rattle.jr_punit.specs.ClassView.{IsBegun, inner_parent, top_parent}
use Rattle.jr_punit.proofs.class_heads.ClassStart.step.Goals as goal

pub returns-in-InParent-clause-inner : goal.returns-in-InParent-clause-inner
returns-in-InParent-clause-inner c =
    rw c.in-InParent.is
    (subst (λ (k : pure.Cue). IsBegun Own.start c.from_parent.result (inner_parent (lead_view c.in-InParent.lead) (word_of c.in-InParent.name) (type_state c.in-InParent.ty) c.args.at k))
    c.cue_of-cue.ensures c.from_parent.ensures.inner)

pub returns-in-InParent-clause-top : goal.returns-in-InParent-clause-top
returns-in-InParent-clause-top c =
    rw c.in-InParent.is
    (subst (λ (k : pure.Cue). IsBegun Members.start c.from_parent.result (top_parent (lead_view c.in-InParent.lead) (word_of c.in-InParent.name) (type_state c.in-InParent.ty) c.args.at k))
    c.cue_of-cue.ensures c.from_parent.ensures.top)
