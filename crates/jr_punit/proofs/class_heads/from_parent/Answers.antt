use Rattle.std.proofs.Common.{sym, subst}
use Rattle.jr_ast.specs.View.{word_of}
use Rattle.jr_pstmt.specs.CueView.{cue_view}
use Rattle.jr_punit_members.specs.LeadView.{lead_view}
use Rattle.jr_pstmt.specs.TypeStateView.{type_state}
use Rattle.jr_pstmt.specs.OwnMachine as Own
use Rattle.jr_punit_laws.specs.MemberMachine as Members
use Rattle.jr_punit.specs.ClassView.{IsBegun}
use Rattle.jr_punit.proofs.ClassSteps.{inner_parent_goes, top_parent_goes}
use Rattle.jr_punit.proofs.class_heads.from_parent.Goals as goal

pub returns-in_default : goal.returns-in_default
returns-in_default c = record {
  inner = subst (IsBegun Own.start c.parent_on.result) (sym (inner_parent_goes (lead_view c.args.lead) (word_of c.args.name) (type_state c.args.ty) c.args.at c.args.cue c.in_default.not-OpenBrace)) c.parent_on.ensures.inner;
  top = subst (IsBegun Members.start c.parent_on.result) (sym (top_parent_goes (lead_view c.args.lead) (word_of c.args.name) (type_state c.args.ty) c.args.at c.args.cue c.in_default.not-OpenBrace)) c.parent_on.ensures.top;
}
