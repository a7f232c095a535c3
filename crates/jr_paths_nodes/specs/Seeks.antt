-- What a search for a child gives, where these are the parts to come.
use Rattle.std.specs.Prelude.{List, Option, Some}
use Rattle.std.specs.List.{slice_get}
use Rattle.jr_paths_nodes.specs.declared.seeks.Seek.{Seek}
use Rattle.jr_paths_nodes.specs.declared.seeks.Seek.TheVariants.{Found, Left}
use Rattle.jr_ast.specs.Nodes as pure
use Rattle.jr_paths_nodes.specs.NodeView.{node_of}

abbrev pub sought : {A : Type 0} → Seek A → List (pure.Node A) → Option (pure.Node A)
sought (Found n) rest = Some (node_of n)
sought (Left k) rest = slice_get rest k
