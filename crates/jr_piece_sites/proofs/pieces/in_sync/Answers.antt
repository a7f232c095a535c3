use Rattle.std.proofs.Common.{◌∙◌}
use Rattle.jr_ast.specs.View.{expr_of, stmts_of}
use Rattle.jr_piece_sites.proofs.Places as place
use Rattle.jr_piece_sites.proofs.pieces.in_sync.Goals as goal

pub returns-in-None : goal.returns-in-None
returns-in-None g c = place.lock_first (expr_of c.args.object.now) (stmts_of c.args.body.now) c.args.number c.in-None.ensures

pub returns-in-Some : goal.returns-in-Some
returns-in-Some g c = c.nth_stmt.ensures ∙ place.sync_behind (expr_of c.args.object.now) (stmts_of c.args.body.now) c.args.number c.in-Some.number c.in-Some.ensures.0 c.in-Some.ensures.1
