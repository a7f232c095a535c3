-- The rows of edges, with a last row of what a node reaches through them.
use Rattle.std.specs.Prelude.{ℕ, ◌*◌, List, []}
use Rattle.jr_flow.specs.declared.edge_rows.EdgeRows.{EdgeRows}
use Rattle.jr_flow.specs.Edges.{AreBelow}
use Rattle.jr_flow.specs.Rows.{width_of}
use Rattle.jr_flow.specs.Holding.{HoldsNumbers, HoldsEdges}
use Rattle.jr_flow.specs.Spreading.{Starts, Searches}

-- none: a row of no numbers; shut: the row of the stops
pub record IsSearched (width : ℕ) (edges : List (ℕ × ℕ)) (from : ℕ) (none shut rows : List ℕ)
    : Type 0 where
  pub filled : List ℕ
  pub started : List ℕ
  pub holds : HoldsEdges width none edges filled
  pub starts : Starts width (64 * width) from filled started
  pub searches : Searches width (64 * width) shut started rows

-- The rows are those of these edges. none: a row of no numbers
pub record AreRowsOf (edges : List (ℕ × ℕ)) (rows : EdgeRows) : Type 0 where
  pub below : AreBelow rows.size edges
  pub none : List ℕ
  pub empty : HoldsNumbers (width_of rows.size) [] none
  pub holds : HoldsEdges (width_of rows.size) none edges rows.words.items
