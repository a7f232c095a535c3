use Rattle.std.proofs.Common.{◌≡◌, ℕ, Option, ap, subst, ◌∙◌}
use Rattle.std.specs.Prelude.{MatchOption}
use Rattle.std.proofs.lemmas.Result.{IfOk-weaker}
use Rattle.jr_text.specs.declared.spans.Span.{Span}
use Rattle.jr_table.specs.Decls.{MemberKey}
use Rattle.jr_table.specs.KeyView.{member_key_of}
use Rattle.jr_bind.specs.Bounds.{Bound}
use Rattle.jr_bind.specs.Programs.{Program}
use Rattle.jr_local_finds.specs.declared.selecting.SelectedValue.{SelectedValue}
use Rattle.jr_local_finds.specs.ExtractView.{extracted_of}
use Rattle.jr_local_finds.specs.ValueView.{chosen_of}
use Rattle.jr_local_finds.specs.Chosen.{HasValue, LacksValues}
use Rattle.jr_local_finds.specs.Extracts.{IsAnswer}
use Rattle.jr_local_finds.proofs.ExtractPlaces.{refuses_lacking, is_selected, of_answer, is_bound_there, has_key, same_bound}
use Rattle.jr_local_finds.proofs.extracting.extract_found.Goals as goal

-- what the search has answered
abbrev Answers : (p : Program Span) (file from to : ℕ) → Option SelectedValue → Type 0
Answers p file from to o = MatchOption o (LacksValues p file (record { from = from; to = to })) (λ x. HasValue p file (record { from = from; to = to }) (chosen_of x))

pub returns-in-None : goal.returns-in-None
returns-in-None g c =
    let p = g.V.View.program c.args.view.now in
    let lacks = subst (Answers p c.args.file c.args.from c.args.to) c.in-None.is c.in_ok-selected.ensures in
    IfOk-weaker c.no_value.result _ _ (λ r h. refuses_lacking p c.keeps_program.ensures c.bodies_have_types.ensures c.args.file c.args.from c.args.to c.args.name.now lacks (extracted_of r) h) c.no_value.ensures

pub bound-bound-requires : goal.bound-bound-requires
bound-bound-requires g c =
    let p = g.V.View.program c.args.view.now in
    let has = subst (Answers p c.args.file c.args.from c.args.to) c.in-Some.is c.in_ok-selected.ensures in
    is_bound_there p c.args.file c.args.from c.args.to (chosen_of c.in-Some.selected) has

pub returns-in-Some : goal.returns-in-Some
returns-in-Some g c =
    let p = g.V.View.program c.args.view.now in
    let x = chosen_of c.in-Some.selected in
    let has : HasValue p c.args.file (record { from = c.args.from; to = c.args.to }) x = subst (Answers p c.args.file c.args.from c.args.to) c.in-Some.is c.in_ok-selected.ensures in
    let bound : c.bound-bound.result.now ≡ has.bound = same_bound p c.args.file c.args.from c.args.to x has c.bound-bound.result.now c.bound-bound.ensures in
    let key : member_key_of c.member.result.now ≡ has.key = c.member.ensures ∙ ap (λ (b : Bound). b.member) bound ∙ has_key p c.keeps_program.ensures c.args.file c.args.from c.args.to x has in
    let selected = is_selected p c.keeps_program.ensures c.bodies_have_types.ensures c.args.file c.args.from c.args.to c.typed_are_no_classes.ensures x has in
    IfOk-weaker c.of_selected.result _ _ (λ r h. of_answer p c.args.file c.args.from c.args.to c.args.name.now x selected (extracted_of r)
    (subst (λ (k : MemberKey). IsAnswer c.args.name.now c.args.file k x (extracted_of r)) key h)) c.of_selected.ensures
