use Rattle.std.proofs.Common.{ℕ, List, [], ◌∷◌, ◌++◌, Option, None, ap, ◌∙◌}
use Rattle.jr_local_parts.proofs.numbers.with_gone.Goals as goal

pub returns : goal.returns
returns c = c.in_ok-push.ensures.items ∙ ap (λ (xs : List (Option ℕ)). xs ++ None ∷ []) c.in_ok-numbers.ensures
