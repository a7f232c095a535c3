use Rattle.std.proofs.Common.{◌∙◌, Option, sym, ap, subst}
use Rattle.std.specs.Prelude.{option_map}
use Rattle.jr_text.specs.declared.spans.Span.{Span}
use Rattle.jr_ast.specs.declared.parts.TypeRef.{TypeRef}
use Rattle.jr_ast.specs.View.{word_of, type_of}
use Rattle.jr_punit_members.specs.declared.heads.MemberHead.{MemberHead}
use Rattle.jr_punit_members.specs.LeadView.{lead_view}
use Rattle.jr_pstmt.specs.OwnMachine as machine
use Rattle.jr_punit_members.specs.OwnView.{IsNextOwn}
use Rattle.jr_punit_members.proofs.fields.begin_value.Goals as goal

pub returns-in-Some : goal.returns-in-Some
returns-in-Some c =
    let r = c.into_inner-lead.result in
    subst (λ n. IsNextOwn c.in_value.result n)
    (ap (λ (o : Option (TypeRef Span)). option_map (machine.begin_value (lead_view r.lead) (word_of r.name)) (option_map type_of o)) (sym c.in-Some.is)
    ∙ ap (λ (h : MemberHead). option_map (machine.begin_value (lead_view h.lead) (word_of h.name)) (option_map type_of h.result)) c.into_inner-lead.ensures)
    c.in_value.ensures
