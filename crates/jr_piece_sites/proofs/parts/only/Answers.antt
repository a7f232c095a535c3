use Rattle.jr_ast.specs.View.{expr_of}
use Rattle.jr_piece_sites.proofs.Places as place
use Rattle.jr_piece_sites.proofs.parts.only.Goals as goal

pub returns-then-number-own : goal.returns-then-number-own
returns-then-number-own g c = place.only_here (expr_of c.args.of.now) c.args.own c.args.number c.if-number-own.true

pub returns-else-number-own : goal.returns-else-number-own
returns-else-number-own g c = place.only_none (expr_of c.args.of.now) c.args.own c.args.number c.if-number-own.false
