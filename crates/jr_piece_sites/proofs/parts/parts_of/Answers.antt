use Rattle.std.proofs.Common.{true, false, ap, sym, ◌∙◌}
use Rattle.jr_ast.specs.declared.exprs.ExprKind.{Call}
use Rattle.jr_ast.specs.Tree as tree
use Rattle.jr_ast.specs.View.{exprs_of, expr_of, expr_kind}
use Rattle.jr_ast.proofs.Rows.{expr_kind-Call, expr_kind-Call_on, expr_kind-SuperCall, expr_kind-New}
use Rattle.jr_piece_sites.specs.Parts as pure
use Rattle.jr_piece_sites.proofs.parts.parts_of.Goals as goal

pub returns-in-SuperCall : goal.returns-in-SuperCall
returns-in-SuperCall g c =
    let m = c.args.of.now.mark in
    ap (λ xs. pure.row false tree.no_target (exprs_of xs)) c.deref-in-SuperCall.ensures.value
    ∙ sym (ap pure.parts_of (ap (expr_kind m) c.in-SuperCall.is ∙ expr_kind-SuperCall _ m c.in-SuperCall.field-0 c.in-SuperCall.args))

pub returns-in-New : goal.returns-in-New
returns-in-New g c =
    let m = c.args.of.now.mark in
    ap (λ xs. pure.row true tree.no_target (exprs_of xs)) c.deref-in-New.ensures.value
    ∙ sym (ap pure.parts_of (ap (expr_kind m) c.in-New.is ∙ expr_kind-New _ m c.in-New.field-0 c.in-New.args))

pub returns-in-None : goal.returns-in-None
returns-in-None g c =
    let m = c.args.of.now.mark in
    let at = c.in-Call in
    ap (λ xs. pure.row false tree.no_target (exprs_of xs)) c.deref-in-None.ensures.value
    ∙ sym (ap pure.parts_of (ap (expr_kind m) (at.is ∙ ap (λ o. Call o at.field-1 at.args) c.in-None.is) ∙ expr_kind-Call _ m at.field-1 at.args))

pub returns-in-Some : goal.returns-in-Some
returns-in-Some g c =
    let m = c.args.of.now.mark in
    let at = c.in-Call in
    (λ i. pure.row false (tree.on (expr_of (c.deref-in-Some.ensures i))) (exprs_of (c.deref-in-Some-2.ensures.value i)))
    ∙ sym (ap pure.parts_of (ap (expr_kind m) (at.is ∙ ap (λ o. Call o at.field-1 at.args) c.in-Some.is) ∙ expr_kind-Call_on _ m c.in-Some.part at.field-1 at.args))
