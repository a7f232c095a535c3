use Rattle.std.proofs.Common.{◌+◌, ℕ, ap, ◌∙◌}
use Rattle.jr_bodies.proofs.codes.front_of.Goals as goal

pub returns : goal.returns
returns c = c.in_ok-front.ensures ∙ ap (λ (n : ℕ). n + c.args.params) c.in_ok-names.ensures
