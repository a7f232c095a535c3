use Rattle.std.proofs.Common.{◌∷◌, ◌++◌, [], map, ap, sym, ◌∙◌, append-nil}
use Rattle.std.specs.List.{slice_get}
use Rattle.jr_ast.specs.Nodes as pure
use Rattle.jr_ast.specs.View.{word_of, modifier_of, param_of, args_of, exprs_of, stmts_of}
use Rattle.jr_paths_nodes.proofs.children.ctor_child.Goals as goal

pub returns-in-None : goal.returns-in-None
returns-in-None g c =
    let at = c.args in
    let words = map pure.modifier (map modifier_of at.modifiers.now) in
    let word = pure.word (word_of at.name.now) in
    let params = map pure.param (map param_of at.params.now) in
    let body = pure.stmts (stmts_of at.body.now) in
    c.end.ensures ∙ c.stmts.ensures [] ∙ c.params-seek.ensures _ ∙ c.then.ensures _ ∙ c.modifiers.ensures _
    ∙ (λ i. slice_get (words ++ (word ∷ (params ++ append-nil body i))) at.number)
    ∙ sym (ap (λ o. slice_get (words ++ (word ∷ (params ++ (pure.args_children (args_of o) ++ body)))) at.number) c.in-None.is)

pub returns-in-Some : goal.returns-in-Some
returns-in-Some g c =
    let at = c.args in
    let words = map pure.modifier (map modifier_of at.modifiers.now) in
    let word = pure.word (word_of at.name.now) in
    let params = map pure.param (map param_of at.params.now) in
    let body = pure.stmts (stmts_of at.body.now) in
    c.end-in-Some.ensures ∙ c.stmts-in-Some.ensures [] ∙ c.exprs.ensures _ ∙ c.params-seek.ensures _ ∙ c.then.ensures _ ∙ c.modifiers.ensures _
    ∙ (λ i. slice_get (words ++ (word ∷ (params ++ (pure.exps (exprs_of (c.deref.ensures.value i)) ++ append-nil body i)))) at.number)
    ∙ sym (ap (λ o. slice_get (words ++ (word ∷ (params ++ (pure.args_children (args_of o) ++ body)))) at.number) c.in-Some.is)
