use Rattle.std.proofs.Common.{Some, ap, sym, ◌∙◌}
use Rattle.jr_ast.specs.View.{stmt_of, else_of}
use Rattle.jr_piece_sites.specs.Pieces as pure
use Rattle.jr_piece_sites.proofs.pieces.else_stmt.Goals as goal

pub returns-in-None : goal.returns-in-None
returns-in-None g c = ap (λ o. pure.else_stmt (else_of o)) (sym c.in-None.is)

pub returns-in-Some : goal.returns-in-Some
returns-in-Some g c = (λ i. Some (pure.stmt (stmt_of (c.deref.ensures i)))) ∙ ap (λ o. pure.else_stmt (else_of o)) (sym c.in-Some.is)
