use Rattle.std.proofs.Common.{◌++◌, ◌∷◌, [], length, map, sym, ap, ◌∙◌}
use Rattle.std.proofs.lemmas.List.{map_more, take_all}
use Rattle.jr_dependence_lines.proofs.member_lines.lens_of.Goals as goal

pub loop-text-preserved : goal.loop-text-preserved
loop-text-preserved c =
    let texts = c.args.texts.now in
    let i = c.loop-text.text-index in
    c.in_ok-push.ensures.items ∙ (λ k. c.loop-text.invariant k ++ length ((c.as_str.ensures ∙ c.text-item.is) k) ∷ [])
    ∙ sym (map_more length texts i c.text-item.result c.loop-text-test.true)

pub returns : goal.returns
returns c = c.loop-text.invariant ∙ ap (map length) (take_all c.loop-text.text-index c.args.texts.now c.loop-text-test.false)
