use Rattle.std.proofs.Common.{ap, sym, ◌∙◌}
use Rattle.std.proofs.lemmas.Result.{IfOk-weaker}
use Rattle.jr_ast.specs.Tree as tree
use Rattle.jr_ast.specs.View.{expr_of, exprs_of, target_of, expr_kind, expr_row, held_target}
use Rattle.jr_ast.specs.Remarked as maps
use Rattle.jr_ast.proofs.Rows.{expr_kind-Call_to, expr_kind-SuperCall, expr_kind-New}
use Rattle.jr_ast.proofs.Sizes.{exp_size, exps_size, target_size}
use Rattle.jr_paths_copies.proofs.MadeOf.{with_part, one_more_made}
use Rattle.jr_ast.proofs.Sizes.{falls_further, falls_left, falls_right, falls_whole_row, falls_item, falls_held, exps_add}
use Rattle.jr_paths_copies.proofs.Marking.{mark_agrees, none_yet, all_done, same_rows}
use Rattle.jr_paths_copies.proofs.expr_marks.+expr_marks.Goals as goal

pub expr-expr-requires : goal.expr-expr-requires
unfolding exp_size exps_size target_size expr_kind expr_row held_target
expr-expr-requires g t c =
    let whole = exp_size (expr_of c.args.of.now) in
    let m = c.args.of.now.mark in
    let at = c.in-Field in
    λ κs o. (falls_further _ t (falls_whole_row (λ x. exp_size (expr_of x)) whole at.part.value c.deref.result.now t c.deref.ensures (ap (λ d. exp_size (expr_kind m d)) at.is) c.decreases), (o.0, (o.1.0, (o.1.1, c.requires))))

pub expr-expr-requires-in-Paren : goal.expr-expr-requires-in-Paren
unfolding exp_size exps_size target_size expr_kind expr_row held_target
expr-expr-requires-in-Paren g t c =
    let whole = exp_size (expr_of c.args.of.now) in
    let m = c.args.of.now.mark in
    let at = c.in-Paren in
    λ κs o. (falls_further _ t (falls_whole_row (λ x. exp_size (expr_of x)) whole at.part.value c.deref-in-Paren.result.now t c.deref-in-Paren.ensures (ap (λ d. exp_size (expr_kind m d)) at.is) c.decreases), (o.0, (o.1.0, (o.1.1, c.requires))))

pub expr-expr-requires-in-Cast : goal.expr-expr-requires-in-Cast
unfolding exp_size exps_size target_size expr_kind expr_row held_target
expr-expr-requires-in-Cast g t c =
    let whole = exp_size (expr_of c.args.of.now) in
    let m = c.args.of.now.mark in
    let at = c.in-Cast in
    λ κs o. (falls_further _ t (falls_whole_row (λ x. exp_size (expr_of x)) whole at.part.value c.deref-in-Cast.result.now t c.deref-in-Cast.ensures (ap (λ d. exp_size (expr_kind m d)) at.is) c.decreases), (o.0, (o.1.0, (o.1.1, c.requires))))

pub expr-expr-requires-in-Unary : goal.expr-expr-requires-in-Unary
unfolding exp_size exps_size target_size expr_kind expr_row held_target
expr-expr-requires-in-Unary g t c =
    let whole = exp_size (expr_of c.args.of.now) in
    let m = c.args.of.now.mark in
    let at = c.in-Unary in
    λ κs o. (falls_further _ t (falls_whole_row (λ x. exp_size (expr_of x)) whole at.part.value c.deref-in-Unary.result.now t c.deref-in-Unary.ensures (ap (λ d. exp_size (expr_kind m d)) at.is) c.decreases), (o.0, (o.1.0, (o.1.1, c.requires))))

pub expr-expr-requires-in-Bump : goal.expr-expr-requires-in-Bump
unfolding exp_size exps_size target_size expr_kind expr_row held_target
expr-expr-requires-in-Bump g t c =
    let whole = exp_size (expr_of c.args.of.now) in
    let m = c.args.of.now.mark in
    let at = c.in-Bump in
    λ κs o. (falls_further _ t (falls_whole_row (λ x. exp_size (expr_of x)) whole at.part.value c.deref-in-Bump.result.now t c.deref-in-Bump.ensures (ap (λ d. exp_size (expr_kind m d)) at.is) c.decreases), (o.0, (o.1.0, (o.1.1, c.requires))))

pub expr-expr-requires-in-Binary : goal.expr-expr-requires-in-Binary
unfolding exp_size exps_size target_size expr_kind expr_row held_target
expr-expr-requires-in-Binary g t c =
    let whole = exp_size (expr_of c.args.of.now) in
    let m = c.args.of.now.mark in
    let at = c.in-Binary in
    λ κs o. (falls_further _ t (falls_left (λ x. exp_size (expr_of x)) whole (exp_size (expr_of at.right.value)) at.left.value c.deref-in-Binary.result.now t c.deref-in-Binary.ensures (ap (λ d. exp_size (expr_kind m d)) at.is) c.decreases), (o.0, (o.1.0, (o.1.1, c.requires))))

pub expr-expr-requires-in-Binary-2 : goal.expr-expr-requires-in-Binary-2
unfolding exp_size exps_size target_size expr_kind expr_row held_target
expr-expr-requires-in-Binary-2 g t c =
    let whole = exp_size (expr_of c.args.of.now) in
    let m = c.args.of.now.mark in
    let at = c.in-Binary in
    λ κs o. (falls_further _ t (falls_right (λ x. exp_size (expr_of x)) whole (exp_size (expr_of at.left.value)) at.right.value c.deref-in-Binary-2.result.now t c.deref-in-Binary-2.ensures (ap (λ d. exp_size (expr_kind m d)) at.is) c.decreases), (o.0, (o.1.0, (o.1.1, c.requires))))

pub expr-expr-requires-in-Assign : goal.expr-expr-requires-in-Assign
unfolding exp_size exps_size target_size expr_kind expr_row held_target
expr-expr-requires-in-Assign g t c =
    let whole = exp_size (expr_of c.args.of.now) in
    let m = c.args.of.now.mark in
    let at = c.in-Assign in
    λ κs o. (falls_further _ t (falls_left (λ x. exp_size (expr_of x)) whole (exp_size (expr_of at.value.value)) at.to.value c.deref-in-Assign.result.now t c.deref-in-Assign.ensures (ap (λ d. exp_size (expr_kind m d)) at.is) c.decreases), (o.0, (o.1.0, (o.1.1, c.requires))))

pub expr-expr-requires-in-Assign-2 : goal.expr-expr-requires-in-Assign-2
unfolding exp_size exps_size target_size expr_kind expr_row held_target
expr-expr-requires-in-Assign-2 g t c =
    let whole = exp_size (expr_of c.args.of.now) in
    let m = c.args.of.now.mark in
    let at = c.in-Assign in
    λ κs o. (falls_further _ t (falls_right (λ x. exp_size (expr_of x)) whole (exp_size (expr_of at.to.value)) at.value.value c.deref-in-Assign-2.result.now t c.deref-in-Assign-2.ensures (ap (λ d. exp_size (expr_kind m d)) at.is) c.decreases), (o.0, (o.1.0, (o.1.1, c.requires))))

pub expr-expr-requires-in-Compound : goal.expr-expr-requires-in-Compound
unfolding exp_size exps_size target_size expr_kind expr_row held_target
expr-expr-requires-in-Compound g t c =
    let whole = exp_size (expr_of c.args.of.now) in
    let m = c.args.of.now.mark in
    let at = c.in-Compound in
    λ κs o. (falls_further _ t (falls_left (λ x. exp_size (expr_of x)) whole (exp_size (expr_of at.value.value)) at.to.value c.deref-in-Compound.result.now t c.deref-in-Compound.ensures (ap (λ d. exp_size (expr_kind m d)) at.is) c.decreases), (o.0, (o.1.0, (o.1.1, c.requires))))

pub expr-expr-requires-in-Compound-2 : goal.expr-expr-requires-in-Compound-2
unfolding exp_size exps_size target_size expr_kind expr_row held_target
expr-expr-requires-in-Compound-2 g t c =
    let whole = exp_size (expr_of c.args.of.now) in
    let m = c.args.of.now.mark in
    let at = c.in-Compound in
    λ κs o. (falls_further _ t (falls_right (λ x. exp_size (expr_of x)) whole (exp_size (expr_of at.to.value)) at.value.value c.deref-in-Compound-2.result.now t c.deref-in-Compound-2.ensures (ap (λ d. exp_size (expr_kind m d)) at.is) c.decreases), (o.0, (o.1.0, (o.1.1, c.requires))))

pub expr-target_expr-target-requires : goal.expr-target_expr-target-requires
unfolding exp_size exps_size target_size expr_kind expr_row held_target
expr-target_expr-target-requires g t c =
    let whole = exp_size (expr_of c.args.of.now) in
    let m = c.args.of.now.mark in
    let at = c.in-Call in
    λ κs o. (falls_left (λ o. target_size (target_of o)) whole (exps_size (exprs_of at.args.items)) at.target at.target t (λ i. at.target) (ap (λ d. exp_size (expr_kind m d)) at.is ∙ ap exp_size (expr_kind-Call_to _ m at.target at.name at.args)) c.decreases, (o.0, (o.1.0, (o.1.1, c.requires))))

pub expr-exprs-requires : goal.expr-exprs-requires
unfolding exp_size exps_size target_size expr_kind expr_row held_target
expr-exprs-requires g t c =
    let whole = exp_size (expr_of c.args.of.now) in
    let m = c.args.of.now.mark in
    let at = c.in-Call in
    λ κs o. (falls_right (λ xs. exps_size (exprs_of xs)) whole (target_size (target_of at.target)) at.args.items c.deref-in-Call.result.now t c.deref-in-Call.ensures.value (ap (λ d. exp_size (expr_kind m d)) at.is ∙ ap exp_size (expr_kind-Call_to _ m at.target at.name at.args)) c.decreases, (o.0, (o.1.0, (o.1.1, c.requires))))

pub expr-exprs-requires-in-SuperCall : goal.expr-exprs-requires-in-SuperCall
unfolding exp_size exps_size target_size expr_kind expr_row held_target
expr-exprs-requires-in-SuperCall g t c =
    let whole = exp_size (expr_of c.args.of.now) in
    let m = c.args.of.now.mark in
    let at = c.in-SuperCall in
    λ κs o. (falls_whole_row (λ xs. exps_size (exprs_of xs)) whole at.args.items c.deref-in-SuperCall.result.now t c.deref-in-SuperCall.ensures.value (ap (λ d. exp_size (expr_kind m d)) at.is ∙ ap exp_size (expr_kind-SuperCall _ m at.name at.args)) c.decreases, (o.0, (o.1.0, (o.1.1, c.requires))))

pub expr-exprs-requires-in-New : goal.expr-exprs-requires-in-New
unfolding exp_size exps_size target_size expr_kind expr_row held_target
expr-exprs-requires-in-New g t c =
    let whole = exp_size (expr_of c.args.of.now) in
    let m = c.args.of.now.mark in
    let at = c.in-New in
    λ κs o. (falls_whole_row (λ xs. exps_size (exprs_of xs)) whole at.args.items c.deref-in-New.result.now t c.deref-in-New.ensures.value (ap (λ d. exp_size (expr_kind m d)) at.is ∙ ap exp_size (expr_kind-New _ m at.created at.args)) c.decreases, (o.0, (o.1.0, (o.1.1, c.requires))))

pub expr-returns-in-Int : goal.expr-returns-in-Int
unfolding maps.map_exp maps.map_exps maps.map_target expr_kind expr_row held_target
expr-returns-in-Int g t c =
    let at = c.in-Int in
    let m = c.args.of.now.mark in
    IfOk-weaker c.number.result _ _ (λ x is h k agree.
    let mark = mark_agrees agree c.mark_by-mark.ensures in
    ap (maps.map_exp h) is ∙ (λ i. tree.number (mark i) at.value) ∙ sym (ap (λ d. maps.map_exp k (expr_kind m d)) at.is)) c.number.ensures

pub expr-returns-in-Bool : goal.expr-returns-in-Bool
unfolding maps.map_exp maps.map_exps maps.map_target expr_kind expr_row held_target
expr-returns-in-Bool g t c =
    let at = c.in-Bool in
    let m = c.args.of.now.mark in
    IfOk-weaker c.truth.result _ _ (λ x is h k agree.
    let mark = mark_agrees agree c.mark_by-mark.ensures in
    ap (maps.map_exp h) is ∙ (λ i. tree.truth (mark i) at.value) ∙ sym (ap (λ d. maps.map_exp k (expr_kind m d)) at.is)) c.truth.ensures

pub expr-returns-in-Null : goal.expr-returns-in-Null
unfolding maps.map_exp maps.map_exps maps.map_target expr_kind expr_row held_target
expr-returns-in-Null g t c =
    let at = c.in-Null in
    let m = c.args.of.now.mark in
    IfOk-weaker c.null.result _ _ (λ x is h k agree.
    let mark = mark_agrees agree c.mark_by-mark.ensures in
    ap (maps.map_exp h) is ∙ (λ i. tree.null (mark i)) ∙ sym (ap (λ d. maps.map_exp k (expr_kind m d)) at.is)) c.null.ensures

pub expr-returns-in-This : goal.expr-returns-in-This
unfolding maps.map_exp maps.map_exps maps.map_target expr_kind expr_row held_target
expr-returns-in-This g t c =
    let at = c.in-This in
    let m = c.args.of.now.mark in
    IfOk-weaker c.this.result _ _ (λ x is h k agree.
    let mark = mark_agrees agree c.mark_by-mark.ensures in
    ap (maps.map_exp h) is ∙ (λ i. tree.this (mark i)) ∙ sym (ap (λ d. maps.map_exp k (expr_kind m d)) at.is)) c.this.ensures

pub expr-returns-in-Text : goal.expr-returns-in-Text
unfolding maps.map_exp maps.map_exps maps.map_target expr_kind expr_row held_target
expr-returns-in-Text g t c =
    let at = c.in-Text in
    let m = c.args.of.now.mark in
    IfOk-weaker c.string.result _ _ (λ x is h k agree.
    let mark = mark_agrees agree c.mark_by-mark.ensures in
    ap (maps.map_exp h) is ∙ (λ i. tree.string (mark i) at.text) ∙ sym (ap (λ d. maps.map_exp k (expr_kind m d)) at.is)) c.string.ensures

pub expr-returns-in-Simple : goal.expr-returns-in-Simple
unfolding maps.map_exp maps.map_exps maps.map_target expr_kind expr_row held_target
expr-returns-in-Simple g t c =
    let at = c.in-Simple in
    let m = c.args.of.now.mark in
    IfOk-weaker c.simple.result _ _ (λ x made. with_part c.word.result made c.word.ensures (λ name' is name. λ h k agree.
    let mark = mark_agrees agree c.mark_by-mark.ensures in
    ap (maps.map_exp h) is ∙ (λ i. tree.name (mark i) (name h k agree i)) ∙ sym (ap (λ d. maps.map_exp k (expr_kind m d)) at.is))) c.simple.ensures

pub expr-returns-in-SuperField : goal.expr-returns-in-SuperField
unfolding maps.map_exp maps.map_exps maps.map_target expr_kind expr_row held_target
expr-returns-in-SuperField g t c =
    let at = c.in-SuperField in
    let m = c.args.of.now.mark in
    IfOk-weaker c.super_field.result _ _ (λ x made. with_part c.word-in-SuperField.result made c.word-in-SuperField.ensures (λ name' is name. λ h k agree.
    let mark = mark_agrees agree c.mark_by-mark.ensures in
    ap (maps.map_exp h) is ∙ (λ i. tree.super_field (mark i) (name h k agree i)) ∙ sym (ap (λ d. maps.map_exp k (expr_kind m d)) at.is))) c.super_field.ensures

pub expr-returns-in-ClassLit : goal.expr-returns-in-ClassLit
unfolding maps.map_exp maps.map_exps maps.map_target expr_kind expr_row held_target
expr-returns-in-ClassLit g t c =
    let at = c.in-ClassLit in
    let m = c.args.of.now.mark in
    IfOk-weaker c.class_literal.result _ _ (λ x made. with_part c.ty.result made c.ty.ensures (λ kind' is kind. λ h k agree.
    let mark = mark_agrees agree c.mark_by-mark.ensures in
    ap (maps.map_exp h) is ∙ (λ i. tree.class_literal (mark i) (kind h k agree i)) ∙ sym (ap (λ d. maps.map_exp k (expr_kind m d)) at.is))) c.class_literal.ensures

pub expr-returns-in-Field : goal.expr-returns-in-Field
unfolding maps.map_exp maps.map_exps maps.map_target expr_kind expr_row held_target
expr-returns-in-Field g t c =
    let at = c.in-Field in
    let m = c.args.of.now.mark in
    IfOk-weaker c.field.result _ _ (λ x made. with_part c.expr.result made c.expr.ensures (λ part' made1 part. with_part c.word-in-Field.result made1 c.word-in-Field.ensures (λ name' is name. λ h k agree.
    let mark = mark_agrees agree c.mark_by-mark.ensures in
    ap (maps.map_exp h) is ∙ (λ i. tree.field (mark i) ((part h k agree ∙ ap (λ y. maps.map_exp k (expr_of y)) c.deref.ensures) i) (name h k agree i)) ∙ sym (ap (λ d. maps.map_exp k (expr_kind m d)) at.is)))) c.field.ensures

pub expr-returns-in-Call : goal.expr-returns-in-Call
unfolding maps.map_exp maps.map_exps maps.map_target expr_kind expr_row held_target
expr-returns-in-Call g t c =
    let at = c.in-Call in
    let m = c.args.of.now.mark in
    IfOk-weaker c.call.result _ _ (λ x made. with_part c.target_expr-target.result made c.target_expr-target.ensures (λ target' made1 target. with_part c.word-in-Call.result made1 c.word-in-Call.ensures (λ name' made2 name. with_part c.exprs.result made2 c.exprs.ensures (λ args' is args. λ h k agree.
    let mark = mark_agrees agree c.mark_by-mark.ensures in
    ap (maps.map_exp h) is ∙ (λ i. tree.call (mark i) (target h k agree i) (name h k agree i) ((args h k agree ∙ ap (λ xs. maps.map_exps k (exprs_of xs)) c.deref-in-Call.ensures.value) i)) ∙ sym (ap (λ d. maps.map_exp k (expr_kind m d)) at.is ∙ ap (maps.map_exp k) (expr_kind-Call_to _ m at.target at.name at.args)))))) c.call.ensures

pub expr-returns-in-SuperCall : goal.expr-returns-in-SuperCall
unfolding maps.map_exp maps.map_exps maps.map_target expr_kind expr_row held_target
expr-returns-in-SuperCall g t c =
    let at = c.in-SuperCall in
    let m = c.args.of.now.mark in
    IfOk-weaker c.super_call.result _ _ (λ x made. with_part c.word-in-SuperCall.result made c.word-in-SuperCall.ensures (λ name' made1 name. with_part c.exprs-in-SuperCall.result made1 c.exprs-in-SuperCall.ensures (λ args' is args. λ h k agree.
    let mark = mark_agrees agree c.mark_by-mark.ensures in
    ap (maps.map_exp h) is ∙ (λ i. tree.super_call (mark i) (name h k agree i) ((args h k agree ∙ ap (λ xs. maps.map_exps k (exprs_of xs)) c.deref-in-SuperCall.ensures.value) i)) ∙ sym (ap (λ d. maps.map_exp k (expr_kind m d)) at.is ∙ ap (maps.map_exp k) (expr_kind-SuperCall _ m at.name at.args))))) c.super_call.ensures

pub expr-returns-in-New : goal.expr-returns-in-New
unfolding maps.map_exp maps.map_exps maps.map_target expr_kind expr_row held_target
expr-returns-in-New g t c =
    let at = c.in-New in
    let m = c.args.of.now.mark in
    IfOk-weaker c.create.result _ _ (λ x made. with_part c.boxed_ty.result made c.boxed_ty.ensures (λ kind' made1 kind. with_part c.exprs-in-New.result made1 c.exprs-in-New.ensures (λ args' is args. λ h k agree.
    let mark = mark_agrees agree c.mark_by-mark.ensures in
    ap (maps.map_exp h) is ∙ (λ i. tree.create (mark i) (kind h k agree i) ((args h k agree ∙ ap (λ xs. maps.map_exps k (exprs_of xs)) c.deref-in-New.ensures.value) i)) ∙ sym (ap (λ d. maps.map_exp k (expr_kind m d)) at.is ∙ ap (maps.map_exp k) (expr_kind-New _ m at.created at.args))))) c.create.ensures

pub expr-returns-in-Paren : goal.expr-returns-in-Paren
unfolding maps.map_exp maps.map_exps maps.map_target expr_kind expr_row held_target
expr-returns-in-Paren g t c =
    let at = c.in-Paren in
    let m = c.args.of.now.mark in
    IfOk-weaker c.paren.result _ _ (λ x made. with_part c.expr-in-Paren.result made c.expr-in-Paren.ensures (λ part' is part. λ h k agree.
    let mark = mark_agrees agree c.mark_by-mark.ensures in
    ap (maps.map_exp h) is ∙ (λ i. tree.paren (mark i) ((part h k agree ∙ ap (λ y. maps.map_exp k (expr_of y)) c.deref-in-Paren.ensures) i)) ∙ sym (ap (λ d. maps.map_exp k (expr_kind m d)) at.is))) c.paren.ensures

pub expr-returns-in-Cast : goal.expr-returns-in-Cast
unfolding maps.map_exp maps.map_exps maps.map_target expr_kind expr_row held_target
expr-returns-in-Cast g t c =
    let at = c.in-Cast in
    let m = c.args.of.now.mark in
    IfOk-weaker c.cast.result _ _ (λ x made. with_part c.boxed_ty-in-Cast.result made c.boxed_ty-in-Cast.ensures (λ kind' made1 kind. with_part c.expr-in-Cast.result made1 c.expr-in-Cast.ensures (λ part' is part. λ h k agree.
    let mark = mark_agrees agree c.mark_by-mark.ensures in
    ap (maps.map_exp h) is ∙ (λ i. tree.cast (mark i) (kind h k agree i) ((part h k agree ∙ ap (λ y. maps.map_exp k (expr_of y)) c.deref-in-Cast.ensures) i)) ∙ sym (ap (λ d. maps.map_exp k (expr_kind m d)) at.is)))) c.cast.ensures

pub expr-returns-in-Unary : goal.expr-returns-in-Unary
unfolding maps.map_exp maps.map_exps maps.map_target expr_kind expr_row held_target
expr-returns-in-Unary g t c =
    let at = c.in-Unary in
    let m = c.args.of.now.mark in
    IfOk-weaker c.unary.result _ _ (λ x made. with_part c.expr-in-Unary.result made c.expr-in-Unary.ensures (λ part' is part. λ h k agree.
    let mark = mark_agrees agree c.mark_by-mark.ensures in
    ap (maps.map_exp h) is ∙ (λ i. tree.unary (mark i) at.op ((part h k agree ∙ ap (λ y. maps.map_exp k (expr_of y)) c.deref-in-Unary.ensures) i)) ∙ sym (ap (λ d. maps.map_exp k (expr_kind m d)) at.is))) c.unary.ensures

pub expr-returns-in-Bump : goal.expr-returns-in-Bump
unfolding maps.map_exp maps.map_exps maps.map_target expr_kind expr_row held_target
expr-returns-in-Bump g t c =
    let at = c.in-Bump in
    let m = c.args.of.now.mark in
    IfOk-weaker c.bump.result _ _ (λ x made. with_part c.expr-in-Bump.result made c.expr-in-Bump.ensures (λ part' is part. λ h k agree.
    let mark = mark_agrees agree c.mark_by-mark.ensures in
    ap (maps.map_exp h) is ∙ (λ i. tree.bump (mark i) at.op ((part h k agree ∙ ap (λ y. maps.map_exp k (expr_of y)) c.deref-in-Bump.ensures) i)) ∙ sym (ap (λ d. maps.map_exp k (expr_kind m d)) at.is))) c.bump.ensures

pub expr-returns-in-Binary : goal.expr-returns-in-Binary
unfolding maps.map_exp maps.map_exps maps.map_target expr_kind expr_row held_target
expr-returns-in-Binary g t c =
    let at = c.in-Binary in
    let m = c.args.of.now.mark in
    IfOk-weaker c.binary.result _ _ (λ x made. with_part c.expr-in-Binary.result made c.expr-in-Binary.ensures (λ left' made1 left. with_part c.expr-in-Binary-2.result made1 c.expr-in-Binary-2.ensures (λ right' is right. λ h k agree.
    let mark = mark_agrees agree c.mark_by-mark.ensures in
    ap (maps.map_exp h) is ∙ (λ i. tree.binary (mark i) at.op ((left h k agree ∙ ap (λ y. maps.map_exp k (expr_of y)) c.deref-in-Binary.ensures) i) ((right h k agree ∙ ap (λ y. maps.map_exp k (expr_of y)) c.deref-in-Binary-2.ensures) i)) ∙ sym (ap (λ d. maps.map_exp k (expr_kind m d)) at.is)))) c.binary.ensures

pub expr-returns-in-Assign : goal.expr-returns-in-Assign
unfolding maps.map_exp maps.map_exps maps.map_target expr_kind expr_row held_target
expr-returns-in-Assign g t c =
    let at = c.in-Assign in
    let m = c.args.of.now.mark in
    IfOk-weaker c.assign.result _ _ (λ x made. with_part c.expr-in-Assign.result made c.expr-in-Assign.ensures (λ to' made1 to. with_part c.expr-in-Assign-2.result made1 c.expr-in-Assign-2.ensures (λ value' is value. λ h k agree.
    let mark = mark_agrees agree c.mark_by-mark.ensures in
    ap (maps.map_exp h) is ∙ (λ i. tree.assign (mark i) ((to h k agree ∙ ap (λ y. maps.map_exp k (expr_of y)) c.deref-in-Assign.ensures) i) ((value h k agree ∙ ap (λ y. maps.map_exp k (expr_of y)) c.deref-in-Assign-2.ensures) i)) ∙ sym (ap (λ d. maps.map_exp k (expr_kind m d)) at.is)))) c.assign.ensures

pub expr-returns-in-Compound : goal.expr-returns-in-Compound
unfolding maps.map_exp maps.map_exps maps.map_target expr_kind expr_row held_target
expr-returns-in-Compound g t c =
    let at = c.in-Compound in
    let m = c.args.of.now.mark in
    IfOk-weaker c.compound.result _ _ (λ x made. with_part c.expr-in-Compound.result made c.expr-in-Compound.ensures (λ to' made1 to. with_part c.expr-in-Compound-2.result made1 c.expr-in-Compound-2.ensures (λ value' is value. λ h k agree.
    let mark = mark_agrees agree c.mark_by-mark.ensures in
    ap (maps.map_exp h) is ∙ (λ i. tree.compound (mark i) at.op ((to h k agree ∙ ap (λ y. maps.map_exp k (expr_of y)) c.deref-in-Compound.ensures) i) ((value h k agree ∙ ap (λ y. maps.map_exp k (expr_of y)) c.deref-in-Compound-2.ensures) i)) ∙ sym (ap (λ d. maps.map_exp k (expr_kind m d)) at.is)))) c.compound.ensures

pub target_expr-expr-requires : goal.target_expr-expr-requires
unfolding exp_size exps_size target_size
target_expr-expr-requires g t c =
    let same_size = ap (λ x. exp_size (expr_of x)) c.deref.ensures ∙ sym (ap (λ o. target_size (target_of o)) c.in-Some.is) in
    λ κs o. (falls_held _ (target_size (target_of c.args.of.now)) t same_size c.decreases, (o.0, (o.1.0, (o.1.1, c.requires))))

pub target_expr-returns-in-None : goal.target_expr-returns-in-None
unfolding maps.map_exp maps.map_exps maps.map_target
target_expr-returns-in-None g t c = λ h k agree. sym (ap (λ o. maps.map_target k (target_of o)) c.in-None.is)

pub target_expr-returns-in_ok-copy-in-Some : goal.target_expr-returns-in_ok-copy-in-Some
unfolding maps.map_exp maps.map_exps maps.map_target
target_expr-returns-in_ok-copy-in-Some g t c = λ h k agree.
    ap tree.on (c.in_ok-copy-in-Some.ensures h k agree ∙ ap (λ x. maps.map_exp k (expr_of x)) c.deref.ensures) ∙ sym (ap (λ o. maps.map_target k (target_of o)) c.in-Some.is)

pub exprs-loop-part-init : goal.exprs-loop-part-init
exprs-loop-part-init g t c = λ h k agree. none_yet (λ x. maps.map_exp h (expr_of x)) (λ x. maps.map_exp k (expr_of x)) c.new-copies.result.items c.args.parts.now c.new-copies.ensures.items

pub exprs-expr-requires : goal.exprs-expr-requires
exprs-expr-requires g t c =
    λ κs o. (falls_item (λ x. exp_size (expr_of x)) (λ xs. exps_size (exprs_of xs)) exps_add c.args.parts.now c.loop-part.part-index c.part-item.result t c.loop-part-test.true c.part-item.is c.decreases, (o.0, (o.1.0, (o.1.1, c.requires))))

pub exprs-returns : goal.exprs-returns
exprs-returns g t c = λ h k agree.
    same_rows h k c.loop-part.copies.items c.args.parts.now (all_done (λ x. maps.map_exp h (expr_of x)) (λ x. maps.map_exp k (expr_of x)) _ _ c.loop-part.part-index c.loop-part-test.false (c.loop-part.invariant h k agree))

pub exprs-loop-part-preserved : goal.exprs-loop-part-preserved
exprs-loop-part-preserved g t c = λ h k agree.
    one_more_made (λ x. maps.map_exp h (expr_of x)) (λ x. maps.map_exp k (expr_of x)) c.loop-part.copies.items _ c.args.parts.now c.loop-part.part-index c.part-item.result c.expr.result
    c.loop-part-test.true c.part-item.is c.in_ok-push_made.ensures (c.loop-part.invariant h k agree) (IfOk-weaker c.expr.result _ _ (λ x copied. copied h k agree) c.expr.ensures)
