use Rattle.std.proofs.Common.{◌≡◌, ◌∷◌, ◌++◌, [], string_bytes, sym, ap, ◌∙◌, append_assoc}
use Rattle.jr_table.specs.TypeView.{ty_of}
use Rattle.jr_names.specs.DeclTexts.{ty_text}
use Rattle.jr_names.proofs.JoinLaws.{types_more}
use Rattle.jr_names.proofs.decl_texts.joined_text.Goals as goal

pub loop-ty-preserved : goal.loop-ty-preserved
loop-ty-preserved c =
    let text = string_bytes c.loop-ty.text in
    let comma : string_bytes c.push_str.new.self ≡ text ++ 44 ∷ [] = c.in_ok-push_str.ensures.bytes in
    let one : string_bytes c.push_str-in-loop-ty.new.self ≡ string_bytes c.push_str.new.self ++ c.as_str.result.now = c.in_ok-push_str-2.ensures.bytes in
    let written : c.as_str.result.now ≡ ty_text (ty_of c.ty-item.result) = c.as_str.ensures.value ∙ c.in_ok-one.ensures in
    let both : string_bytes c.push_str-in-loop-ty.new.self ≡ text ++ 44 ∷ ty_text (ty_of c.ty-item.result) =
    one ∙ ap (λ t. t ++ c.as_str.result.now) comma ∙ append_assoc text (44 ∷ []) c.as_str.result.now ∙ ap (λ t. text ++ 44 ∷ t) written in
    both ∙ ap (λ t. t ++ 44 ∷ ty_text (ty_of c.ty-item.result)) c.loop-ty.invariant ∙ sym (types_more (ty_of c.args.first.now) c.args.rest.now c.loop-ty.ty-index c.ty-item.result c.loop-ty-test.true c.ty-item.is)
