use Rattle.std.proofs.Common.{option_map, ap, sym, ◌∙◌}
use Rattle.jr_ast.specs.View.{expr_of}
use Rattle.jr_piece_sites.specs.Pieces as pure
use Rattle.jr_piece_sites.proofs.pieces.maybe_at.Goals as goal

pub returns-in-None : goal.returns-in-None
returns-in-None g c = ap (λ o. pure.maybe_at c.args.own (option_map expr_of o) c.args.number) (sym c.in-None.is)

pub returns-in-Some : goal.returns-in-Some
returns-in-Some g c = c.as_only.ensures ∙ ap (λ o. pure.maybe_at c.args.own (option_map expr_of o) c.args.number) (sym c.in-Some.is)
