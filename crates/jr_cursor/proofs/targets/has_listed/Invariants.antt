use Rattle.std.proofs.Common.{ℕ, ◌<◌}
use Rattle.jr_table.specs.Decls.{Decl}
use Rattle.jr_images.specs.Targets.{IsOfPrelude}
use Rattle.jr_cursor.specs.Listed.{HasNumbered}
use Rattle.jr_cursor.proofs.targets.has_listed.Given as goal

-- what those so far have is of the prelude
abbrev pub invariant-loop-number : goal.invariant-loop-number
invariant-loop-number g l = (n : ℕ) → n < l.number → (d : Decl) → HasNumbered (g.V.View.program l.view) l.members l.file l.at n d → (IsOfPrelude (g.V.View.program l.view).rows d → ⊥) → ⊥
