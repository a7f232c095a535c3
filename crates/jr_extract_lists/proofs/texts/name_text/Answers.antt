use Rattle.std.proofs.Common.{◌≡◌, [], ◌∷◌, refl, subst}
use Rattle.std.specs.Prelude.{IfOk, string_bytes}
use Rattle.jr_grammar.specs.Tokens.{word}
use Rattle.jr_moved_texts.specs.Spaces.{spaced}
use Rattle.jr_extract_lists.proofs.texts.name_text.Goals as goal

pub spaced-text-requires : goal.spaced-text-requires
spaced-text-requires c = (c.args.of.now.text.now, c.requires)

pub returns : goal.returns
returns c =
    let of = c.args.of.now in
    let name = of.request.name.now in
    subst (λ put. IfOk c.spaced-text.result (λ s. string_bytes s ≡ spaced of.items.now of.value.now.mark (word name ∷ []) put)) c.as_str.ensures (c.spaced-text.ensures (word name ∷ []) refl refl)
