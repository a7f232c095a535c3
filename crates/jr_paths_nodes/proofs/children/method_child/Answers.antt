use Rattle.std.proofs.Common.{◌∷◌, ◌++◌, [], List, map, option_map, ap, ◌∙◌, append-nil}
use Rattle.std.specs.List.{slice_get}
use Rattle.jr_ast.specs.Nodes as pure
use Rattle.jr_ast.specs.View.{word_of, modifier_of, type_of, param_of, stmts_of}
use Rattle.jr_paths_nodes.proofs.children.method_child.Goals as goal

pub returns : goal.returns
returns g c =
    let at = c.args in
    c.end.ensures ∙ c.stmts.ensures [] ∙ c.params.ensures _ ∙ c.then.ensures _ ∙ c.then_type.ensures _ ∙ c.modifiers.ensures _
    ∙ ap (λ (l : List (pure.Node g.row.A.Denot)). slice_get l at.number)
    (λ i. map pure.modifier (map modifier_of at.modifiers.now) ++ (pure.maybe (option_map pure.type (option_map type_of (c.as_ref.ensures.value i))) ++ (pure.word (word_of at.name.now) ∷ (map pure.param (map param_of at.params.now) ++ append-nil (pure.stmts (stmts_of at.body.now)) i))))
