use Rattle.std.proofs.Common.{ap, sym, ◌∙◌}
use Rattle.jr_piece_sites.specs.Parts as pure
use Rattle.jr_piece_sites.specs.PartsView.{parts_view}
use Rattle.jr_piece_sites.proofs.parts.expr_in.Goals as goal

pub returns-in-Row : goal.returns-in-Row
returns-in-Row g c = c.nth_behind.ensures ∙ sym (ap (λ p. pure.exp_in (parts_view p) c.args.number) c.in-Row.is)
