use Rattle.std.proofs.Common.{suc, ◌+◌, length, map, option_map, ◌∙◌, arith}
use Rattle.std.proofs.lemmas.List.{length-map}
use Rattle.jr_ast.specs.View.{expr_of, modifier_of}
use Rattle.jr_piece_sites.specs.Pieces as pure
use Rattle.jr_piece_sites.proofs.Places as place
use Rattle.jr_piece_sites.proofs.pieces.field_part.Goals as goal

pub returns-in-None : goal.returns-in-None
returns-in-None g c =
    let l = length-map c.args.modifiers.now modifier_of in
    place.part_off (pure.maybe_at 0 (option_map expr_of c.args.init.now)) (suc (suc (length (map modifier_of c.args.modifiers.now)))) (suc (length c.args.modifiers.now + 1) + 0) (omega (arith, l)) c.args.number c.in-None.ensures

pub returns-in-Some : goal.returns-in-Some
returns-in-Some g c =
    let l = length-map c.args.modifiers.now modifier_of in
    c.maybe_at.ensures ∙ place.part_at (pure.maybe_at 0 (option_map expr_of c.args.init.now)) (suc (suc (length (map modifier_of c.args.modifiers.now)))) (suc (length c.args.modifiers.now + 1) + 0) (omega (arith, l)) c.args.number c.in-Some.number c.in-Some.ensures.0 c.in-Some.ensures.1
