use Rattle.std.proofs.Common.{◌∙◌}
use Rattle.std.specs.Prelude.{◌==◌}
use Rattle.jr_rename.specs.Walks.{Held}
use Rattle.jr_rename.proofs.Loops.{any_shown}
use Rattle.jr_rename.proofs.walks.has_number.Goals as goal

pub returns : goal.returns
returns c = c.has_held.ensures ∙ any_shown (λ (h : Held). h.number == c.args.number) c.args.scope.now
