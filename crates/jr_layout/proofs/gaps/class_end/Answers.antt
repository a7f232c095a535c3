use Rattle.std.proofs.Common.{◌∙◌, ◌++◌, ◌∷◌, ap, string_bytes}
use Rattle.std.proofs.lemmas.Result.{IfOk-weaker}
use Rattle.jr_layout.proofs.LayoutLaws.{class_end_first, class_end_else}
use Rattle.jr_layout.proofs.gaps.class_end.Goals as goal

pub returns-in-Some : goal.returns-in-Some
returns-in-Some c = IfOk-weaker c.join.result _ _ (λ put e. class_end_first c.args.text.now c.args.at c.args.member.now c.in-Some.field-0 (string_bytes c.in_ok-gap.gap) (string_bytes put) c.in-Some.ensures.some c.in_ok-gap.ensures (e ∙ ap (λ g. 32 ∷ 32 ∷ 32 ∷ 32 ∷ (c.args.member.now ++ g)) c.as_str.ensures.value)) c.join.ensures

pub returns : goal.returns
returns c = IfOk-weaker c.join-in-None.result _ _ (λ put e. class_end_else c.args.text.now c.args.at c.args.member.now (string_bytes c.in_ok-gap.gap) (string_bytes put) c.in-None.ensures.none c.in_ok-gap.ensures (e ∙ ap (λ g. 32 ∷ (c.args.member.now ++ g)) c.as_str-in-None.ensures.value)) c.join-in-None.ensures
