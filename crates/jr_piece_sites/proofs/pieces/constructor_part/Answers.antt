use Rattle.std.proofs.Common.{suc, ◌+◌, length, map, ◌∙◌, arith}
use Rattle.std.proofs.lemmas.List.{length-map}
use Rattle.jr_ast.specs.View.{stmts_of, args_of, modifier_of, param_of}
use Rattle.jr_piece_sites.specs.Pieces as pure
use Rattle.jr_piece_sites.proofs.Places as place
use Rattle.jr_piece_sites.proofs.pieces.constructor_part.Goals as goal

pub returns-in-None : goal.returns-in-None
returns-in-None g c =
    let l = length-map c.args.modifiers.now modifier_of in
    let q = length-map c.args.params.now param_of in
    place.part_off (pure.in_constructor (args_of c.args.args.now) (stmts_of c.args.body.now)) (pure.constructor_front (map modifier_of c.args.modifiers.now) (map param_of c.args.params.now)) (suc (length c.args.modifiers.now + 0) + length c.args.params.now) (omega (arith, l, q)) c.args.number c.in-None.ensures

pub returns-in-Some : goal.returns-in-Some
returns-in-Some g c =
    let l = length-map c.args.modifiers.now modifier_of in
    let q = length-map c.args.params.now param_of in
    c.in_constructor.ensures ∙ place.part_at (pure.in_constructor (args_of c.args.args.now) (stmts_of c.args.body.now)) (pure.constructor_front (map modifier_of c.args.modifiers.now) (map param_of c.args.params.now)) (suc (length c.args.modifiers.now + 0) + length c.args.params.now) (omega (arith, l, q)) c.args.number c.in-Some.number c.in-Some.ensures.0 c.in-Some.ensures.1
