use Rattle.std.proofs.Common.{◌∷◌, ap, sym, ◌∙◌}
use Rattle.std.specs.List.{slice_get}
use Rattle.jr_ast.specs.declared.exprs.ExprKind.{Call}
use Rattle.jr_ast.specs.Nodes as pure
use Rattle.jr_ast.specs.View.{word_of, type_of, exprs_of, expr_of, expr_kind}
use Rattle.jr_ast.proofs.Rows.{expr_kind-Call, expr_kind-Call_on, expr_kind-SuperCall, expr_kind-New}
use Rattle.jr_paths_nodes.proofs.children.expr_child.Goals as goal

pub returns-in-SuperCall : goal.returns-in-SuperCall
unfolding pure.exp_children
returns-in-SuperCall g c =
    let m = c.args.expr.now.mark in
    let first = pure.word (word_of c.in-SuperCall.name) in
    c.then_exprs-in-SuperCall.ensures
    ∙ ap (λ xs. slice_get (first ∷ pure.exps (exprs_of xs)) c.args.number) c.deref-in-SuperCall.ensures.value
    ∙ sym (ap (λ e. slice_get (pure.exp_children e) c.args.number) (ap (expr_kind m) c.in-SuperCall.is ∙ expr_kind-SuperCall _ m c.in-SuperCall.name c.in-SuperCall.args))

pub returns-in-New : goal.returns-in-New
unfolding pure.exp_children
returns-in-New g c =
    let m = c.args.expr.now.mark in
    let first = pure.type (type_of c.in-New.ty.value) in
    c.then_exprs-in-New.ensures
    ∙ ap (λ n. slice_get (n ∷ pure.exps (exprs_of c.deref-in-New.result.now)) c.args.number) c.type_node.ensures
    ∙ ap (λ xs. slice_get (first ∷ pure.exps (exprs_of xs)) c.args.number) c.deref-in-New.ensures.value
    ∙ sym (ap (λ e. slice_get (pure.exp_children e) c.args.number) (ap (expr_kind m) c.in-New.is ∙ expr_kind-New _ m c.in-New.ty c.in-New.args))

pub returns-in-None : goal.returns-in-None
unfolding pure.exp_children
returns-in-None g c =
    let m = c.args.expr.now.mark in
    let at = c.in-Call in
    let word = pure.word (word_of at.name) in
    c.then_exprs.ensures
    ∙ ap (λ xs. slice_get (word ∷ pure.exps (exprs_of xs)) c.args.number) c.deref-in-None.ensures.value
    ∙ sym (ap (λ e. slice_get (pure.exp_children e) c.args.number) (ap (expr_kind m) (at.is ∙ ap (λ o. Call o at.name at.args) c.in-None.is) ∙ expr_kind-Call _ m at.name at.args))

pub returns-in-Some : goal.returns-in-Some
unfolding pure.exp_children
returns-in-Some g c =
    let m = c.args.expr.now.mark in
    let at = c.in-Call in
    let target = c.in-Some.target in
    let word = pure.word (word_of at.name) in
    c.two_then_exprs.ensures
    ∙ ap (λ x. slice_get (pure.exp (expr_of x) ∷ (word ∷ pure.exps (exprs_of c.deref-in-Some-2.result.now))) c.args.number) c.deref-in-Some.ensures
    ∙ ap (λ l. slice_get (pure.exp (expr_of target.value) ∷ (word ∷ l)) c.args.number) (ap (λ xs. pure.exps (exprs_of xs)) c.deref-in-Some-2.ensures.value)
    ∙ sym (ap (λ e. slice_get (pure.exp_children e) c.args.number) (ap (expr_kind m) (at.is ∙ ap (λ o. Call o at.name at.args) c.in-Some.is) ∙ expr_kind-Call_on _ m target at.name at.args))
