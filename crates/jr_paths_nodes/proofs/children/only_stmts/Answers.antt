use Rattle.std.proofs.Common.{[], ap, ◌∙◌, append-nil}
use Rattle.std.specs.List.{slice_get}
use Rattle.jr_paths_nodes.proofs.children.only_stmts.Goals as goal

pub returns : goal.returns
returns g c = c.end.ensures ∙ c.stmts.ensures [] ∙ ap (λ l. slice_get l c.args.number) (append-nil _)
