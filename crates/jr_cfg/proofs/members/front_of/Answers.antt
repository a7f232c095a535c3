use Rattle.std.proofs.Common.{◌≡◌, ◌+◌, ℕ, ap, ◌∙◌, arith}
use Rattle.jr_cfg.proofs.members.front_of.Goals as goal

pub returns-clause-step : goal.returns-clause-step
returns-clause-step c = c.in_ok-step.ensures ∙ ap (λ (n : ℕ). n + c.args.params) c.in_ok-names.ensures

pub returns-clause-number : goal.returns-clause-number
returns-clause-number c = c.in_ok-number.ensures ∙ none c.args.params
  where
    none : (n : ℕ) → 0 + n ≡ n
    none n = omega arith
