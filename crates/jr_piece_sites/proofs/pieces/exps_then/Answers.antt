use Rattle.std.proofs.Common.{◌∙◌, arith}
use Rattle.jr_piece_sites.proofs.Places as place
use Rattle.jr_piece_sites.proofs.pieces.exps_then.Goals as goal

pub returns-in-None : goal.returns-in-None
returns-in-None g c =
    let h = c.in-None.ensures in
    c.nth_exp.ensures ∙ place.args_first c.args.args.now c.args.body.now c.args.number (omega (arith, h))

pub returns-in-Some : goal.returns-in-Some
returns-in-Some g c =
    c.nth_stmt.ensures ∙ place.then_stmts c.args.args.now c.args.body.now c.args.number c.in-Some.left c.in-Some.ensures.0 c.in-Some.ensures.1
