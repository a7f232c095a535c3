use Rattle.std.proofs.Common.{◌∷◌, ◌++◌, map, option_map, ap, sym, ◌∙◌}
use Rattle.std.specs.List.{slice_get}
use Rattle.jr_ast.specs.Nodes as pure
use Rattle.jr_ast.specs.View.{word_of, modifier_of, type_of, param_of, expr_of, stmts_of, args_of, member_kind, class_of, member_row}
use Rattle.jr_paths_nodes.proofs.children.member_child.Goals as goal

pub returns-in-Field : goal.returns-in-Field
unfolding pure.member_children member_kind class_of member_row
returns-in-Field g c =
    let m = c.args.member.now.mark in
    let at = c.in-Field in
    let others = pure.type (type_of at.ty) ∷ (pure.word (word_of at.name) ∷ pure.maybe (option_map pure.exp (option_map expr_of at.init))) in
    c.field_child.ensures
    ∙ (λ i. slice_get (map pure.modifier (map modifier_of (c.deref.ensures.value i)) ++ others) c.args.number)
    ∙ sym (ap (λ k. slice_get (pure.member_children (member_kind m k)) c.args.number) at.is)

pub returns-in-Method : goal.returns-in-Method
unfolding pure.member_children member_kind class_of member_row
returns-in-Method g c =
    let m = c.args.member.now.mark in
    let at = c.in-Method in
    let ret = pure.maybe (option_map pure.type (option_map type_of at.ret)) in
    let word = pure.word (word_of at.name) in
    c.method_child.ensures
    ∙ (λ i. slice_get (map pure.modifier (map modifier_of (c.deref-in-Method.ensures.value i)) ++ (ret ++ (word ∷ (map pure.param (map param_of (c.deref-in-Method-2.ensures.value i)) ++ pure.stmts (stmts_of (c.deref-in-Method-3.ensures.value i)))))) c.args.number)
    ∙ sym (ap (λ k. slice_get (pure.member_children (member_kind m k)) c.args.number) at.is)

pub returns-in-Ctor : goal.returns-in-Ctor
unfolding pure.member_children member_kind class_of member_row
returns-in-Ctor g c =
    let m = c.args.member.now.mark in
    let at = c.in-Ctor in
    let word = pure.word (word_of at.name) in
    let args = pure.args_children (args_of at.parent_args) in
    c.ctor_child.ensures
    ∙ (λ i. slice_get (map pure.modifier (map modifier_of (c.deref-in-Ctor.ensures.value i)) ++ (word ∷ (map pure.param (map param_of (c.deref-in-Ctor-2.ensures.value i)) ++ (args ++ pure.stmts (stmts_of (c.deref-in-Ctor-3.ensures.value i)))))) c.args.number)
    ∙ sym (ap (λ k. slice_get (pure.member_children (member_kind m k)) c.args.number) at.is)
