use Rattle.std.proofs.Common.{List, ◌∷◌, ◌++◌, [], map, option_map, ap, sym, ◌∙◌, append-nil}
use Rattle.std.specs.List.{slice_get}
use Rattle.jr_ast.specs.declared.members.Class.{out-Class}
use Rattle.jr_ast.specs.Nodes as pure
use Rattle.jr_ast.specs.View.{word_of, modifier_of, type_of, members_of}
use Rattle.jr_ast.proofs.Rows.{class_of-out}
use Rattle.jr_paths_nodes.proofs.children.class_child.Goals as goal

pub returns : goal.returns
unfolding pure.class_children
returns g c =
    let word = pure.word (word_of (out-Class _ c.args.class.now).name) in
    c.end.ensures ∙ c.members.ensures [] ∙ c.then_type.ensures _ ∙ c.then.ensures _ ∙ c.modifiers.ensures _
    ∙ ap (λ (l : List (pure.Node g.row.A.Denot)). slice_get l c.args.number)
    ((λ i. map pure.modifier (map modifier_of (c.deref.ensures.value i)) ++ (word ∷ (pure.maybe (option_map pure.type (option_map type_of (c.as_ref.ensures.value i))) ++ append-nil (pure.members (members_of (c.deref-2.ensures.value i))) i)))
    ∙ sym (ap pure.class_children (class_of-out _ c.args.class.now)))
