-- What a `Reach` tells.
use Rattle.std.specs.Prelude.{ℕ, ◌<◌, ◌↔◌}
use Rattle.jr_flow.specs.declared.reach.Reach.{Reach}
use Rattle.jr_flow.specs.Rows.{Has, width_of}

abbrev pub Comes : Reach → (from to : ℕ) → Type 0
Comes reach from to = (from < reach.size) × (to < reach.size)
    × Has reach.words.items (width_of reach.size) from to

-- It tells exactly of these pairs.
abbrev pub Tells : (Pairs : ℕ → ℕ → Type 0) → Reach → Type 0
Tells Pairs reach = (from to : ℕ) → (Comes reach from to ↔ Pairs from to)
