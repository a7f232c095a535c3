use Rattle.std.proofs.Common.{suc, ◌+◌, length, map, option_map, ◌∙◌, arith}
use Rattle.std.proofs.lemmas.List.{length-map}
use Rattle.jr_ast.specs.View.{stmts_of, type_of, modifier_of, param_of}
use Rattle.jr_piece_sites.specs.Pieces as pure
use Rattle.jr_piece_sites.proofs.Places as place
use Rattle.jr_piece_sites.proofs.pieces.method_part.Goals as goal

pub returns-in-None : goal.returns-in-None
returns-in-None g c =
    let l = length-map c.args.modifiers.now modifier_of in
    let q = length-map c.args.params.now param_of in
    let r = c.results.ensures in
    place.part_off (pure.nth_stmt (stmts_of c.args.body.now)) (pure.method_front (map modifier_of c.args.modifiers.now) (option_map type_of c.args.result_type.now) (map param_of c.args.params.now)) (suc (length c.args.modifiers.now + c.results.result) + length c.args.params.now) (omega (arith, l, q, r)) c.args.number c.in-None.ensures

pub returns-in-Some : goal.returns-in-Some
returns-in-Some g c =
    let l = length-map c.args.modifiers.now modifier_of in
    let q = length-map c.args.params.now param_of in
    let r = c.results.ensures in
    c.nth_stmt.ensures ∙ place.part_at (pure.nth_stmt (stmts_of c.args.body.now)) (pure.method_front (map modifier_of c.args.modifiers.now) (option_map type_of c.args.result_type.now) (map param_of c.args.params.now)) (suc (length c.args.modifiers.now + c.results.result) + length c.args.params.now) (omega (arith, l, q, r)) c.args.number c.in-Some.number c.in-Some.ensures.0 c.in-Some.ensures.1
