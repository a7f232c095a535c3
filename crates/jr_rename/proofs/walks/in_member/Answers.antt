use Rattle.std.proofs.Common.{map, ap, sym, ◌∙◌}
use Rattle.std.proofs.lemmas.Result.{IfOk-weaker}
use Rattle.jr_ast.specs.View.{param_of, stmts_of, member_kind, member_row, class_of}
use Rattle.jr_table.specs.KeyView.{member_key_of}
use Rattle.jr_rename.specs.Walks.{asked_of, in_code, in_member}
use Rattle.jr_rename.proofs.walks.in_member.Goals as goal

pub returns-in-Method : goal.returns-in-Method
unfolding member_kind member_row class_of
returns-in-Method g c =
    let a = asked_of c.args.asked.now in
    let key = member_key_of c.args.key.now in
    let m = c.args.member.now.mark in
    IfOk-weaker c.in_code.result _ _ (λ w e. e
    ∙ (λ i. in_code a (c.type_count-types.ensures i) (map param_of (c.deref.ensures.value i)) (stmts_of (c.deref-in-Method.ensures.value i)))
    ∙ sym (ap (λ k. in_member a key (member_kind m k)) c.in-Method.is)) c.in_code.ensures

pub returns-in-Ctor : goal.returns-in-Ctor
unfolding member_kind member_row class_of
returns-in-Ctor g c =
    let a = asked_of c.args.asked.now in
    let key = member_key_of c.args.key.now in
    let m = c.args.member.now.mark in
    IfOk-weaker c.in_code-in-Ctor.result _ _ (λ w e. e
    ∙ (λ i. in_code a (c.type_count-types.ensures i) (map param_of (c.deref-in-Ctor.ensures.value i)) (stmts_of (c.deref-in-Ctor-2.ensures.value i)))
    ∙ sym (ap (λ k. in_member a key (member_kind m k)) c.in-Ctor.is)) c.in_code-in-Ctor.ensures
