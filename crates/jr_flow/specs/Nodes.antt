-- What a `Reached` tells.
use Rattle.std.specs.Prelude.{ℕ, ◌*◌, ◌<◌, ◌↔◌}
use Rattle.jr_flow.specs.declared.reached.Reached.{Reached}
use Rattle.jr_flow.specs.Rows.{Has, width_of}

abbrev pub IsReached : Reached → (node : ℕ) → Type 0
IsReached reached node = (node < reached.size)
    × Has reached.words.items (width_of reached.size) (64 * width_of reached.size) node

-- It tells exactly of these nodes.
abbrev pub TellsNodes : (Nodes : ℕ → Type 0) → Reached → Type 0
TellsNodes Nodes reached = (node : ℕ) → (IsReached reached node ↔ Nodes node)
