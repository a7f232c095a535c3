use Rattle.std.proofs.Common.{rules}
use Rattle.std.proofs.lemmas.Fn.{always_returns_same}
use Rattle.jr_program.proofs.TokenPlaces.{from_of, is_placed, found, lacking, no_token, token_text}
use Rattle.jr_program.proofs.tokens.token_at.Goals as goal

pub part-requires : goal.part-requires
part-requires c =
    let position = c.binary_search_by_key.ensures.position from_of (always_returns_same _ _ _ (λ a r f k. search rules)) in
    let there = found c.args.text.now c.args.items.now c.items_are_placed.ensures.items c.requires c.args.at c.in-Ok.number c.binary_search_by_key.result c.in-Ok.is c.binary_search_by_key.ensures.bound position in
    (is_placed c.args.text.now c.args.items.now c.items_are_placed.ensures.items c.requires c.in-Ok.number _ there.0).cut

pub returns-in-Err : goal.returns-in-Err
returns-in-Err c = λ name.
    let position = c.binary_search_by_key.ensures.position from_of (always_returns_same _ _ _ (λ a r f k. search rules)) in
    lacking c.args.text.now c.args.items.now c.items_are_placed.ensures.items c.requires c.args.at c.in-Err.field-0 name c.binary_search_by_key.result c.in-Err.is position

pub returns-in-Token : goal.returns-in-Token
returns-in-Token c =
    let position = c.binary_search_by_key.ensures.position from_of (always_returns_same _ _ _ (λ a r f k. search rules)) in
    let there = found c.args.text.now c.args.items.now c.items_are_placed.ensures.items c.requires c.args.at c.in-Ok.number c.binary_search_by_key.result c.in-Ok.is c.binary_search_by_key.ensures.bound position in
    token_text c.args.text.now c.args.items.now c.items_are_placed.ensures.items c.requires c.args.at c.in-Ok.number _ c.in-Token.field-0 _ there.0 (there.1 _) c.in-Token.is c.part.ensures

pub returns-in-Blank : goal.returns-in-Blank
returns-in-Blank c = λ name.
    let position = c.binary_search_by_key.ensures.position from_of (always_returns_same _ _ _ (λ a r f k. search rules)) in
    let there = found c.args.text.now c.args.items.now c.items_are_placed.ensures.items c.requires c.args.at c.in-Ok.number c.binary_search_by_key.result c.in-Ok.is c.binary_search_by_key.ensures.bound position in
    no_token c.args.text.now c.args.items.now c.items_are_placed.ensures.items c.requires c.args.at c.in-Ok.number _ _ name there.0 (there.1 _) c.in-Blank.is (λ t e. cc)

pub returns-in-Comment : goal.returns-in-Comment
returns-in-Comment c = λ name.
    let position = c.binary_search_by_key.ensures.position from_of (always_returns_same _ _ _ (λ a r f k. search rules)) in
    let there = found c.args.text.now c.args.items.now c.items_are_placed.ensures.items c.requires c.args.at c.in-Ok.number c.binary_search_by_key.result c.in-Ok.is c.binary_search_by_key.ensures.bound position in
    no_token c.args.text.now c.args.items.now c.items_are_placed.ensures.items c.requires c.args.at c.in-Ok.number _ _ name there.0 (there.1 _) c.in-Comment.is (λ t e. cc)
