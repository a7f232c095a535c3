use Rattle.std.proofs.Common.{ℕ, ◌<◌}
use Rattle.jr_rename.specs.Steps.{HasName}
use Rattle.jr_rename.proofs.steps.file_of.Given as goal

-- none of those so far has it
abbrev pub invariant-loop-number : goal.invariant-loop-number
invariant-loop-number g l = (n : ℕ) → n < l.number → HasName (g.V.View.program l.view) l.name n → ⊥
