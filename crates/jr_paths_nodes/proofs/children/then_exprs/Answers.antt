use Rattle.std.proofs.Common.{[], ◌∷◌, ap, ◌∙◌, append-nil}
use Rattle.std.specs.List.{slice_get}
use Rattle.jr_paths_nodes.specs.NodeView.{node_of}
use Rattle.jr_paths_nodes.proofs.children.then_exprs.Goals as goal

pub returns : goal.returns
returns g c = c.end.ensures ∙ c.exprs.ensures [] ∙ c.then.ensures _ ∙ ap (λ l. slice_get (node_of c.args.first ∷ l) c.args.number) (append-nil _)
