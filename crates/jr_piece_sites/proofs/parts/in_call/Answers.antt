use Rattle.std.proofs.Common.{◌∙◌}
use Rattle.jr_ast.specs.View.{expr_of, exprs_of}
use Rattle.jr_piece_sites.proofs.Places as place
use Rattle.jr_piece_sites.proofs.parts.in_call.Goals as goal

pub returns-in-Some : goal.returns-in-Some
returns-in-Some g c = c.nth_behind.ensures ∙ place.args_behind (expr_of c.args.target.now) (exprs_of c.args.args.now) c.args.number c.in-Some.number c.in-Some.ensures.0 c.in-Some.ensures.1
