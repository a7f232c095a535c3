use Rattle.std.proofs.Common.{◌≡◌, ℕ, List, Option, map, sym, ap, subst, ◌∙◌}
use Rattle.std.proofs.lemmas.Result.{IfOk-weaker}
use Rattle.std.specs.Prelude.{option_map}
use Rattle.jr_text.specs.declared.spans.Span.{Span}
use Rattle.jr_ast.specs.MemberTree as syntax
use Rattle.jr_ast.specs.declared.parts.Param.{Param}
use Rattle.jr_ast.specs.declared.parts.Modifier.{Modifier}
use Rattle.jr_ast.specs.declared.stmts.Stmt.{Stmt}
use Rattle.jr_ast.specs.View.{word_of, modifier_of, type_of, param_of, expr_of, args_of, stmts_of, class_of, member_of, member_kind}
use Rattle.jr_new_bodies.specs.OutputView.{gathered}
use Rattle.jr_new_files.specs.Walking.{key_of, rows_of, mapping_of}
use Rattle.jr_new_files.specs.Ready.{MemberReady, HasSuperAt}
use Rattle.jr_new_files.specs.PartEffects.{MemberGathers}
use Rattle.jr_new_files.proofs.Giving.{field_gives, method_gives, ctor_gives}
use Rattle.jr_new_files.proofs.members.member.Goals as goal

pub field-requires : goal.field-requires
unfolding member_kind
field-requires g c =
    let w = c.args.of.now in
    let m = c.args.member.now.mark in
    let whole : member_of c.args.member.now ≡ syntax.field m (map modifier_of c.deref.result.now) (type_of c.in-Field.ty) (word_of c.in-Field.name) (option_map expr_of c.in-Field.init) = ap (member_kind m) c.in-Field.is ∙ ap (λ (ms : List (Modifier Span)). syntax.field m (map modifier_of ms) (type_of c.in-Field.ty) (word_of c.in-Field.name) (option_map expr_of c.in-Field.init)) (sym c.deref.ensures.value) in
    record { walked = c.requires.walked; ready = subst (λ (x : syntax.Member Span). MemberReady (rows_of w) w.bound.now w.from (key_of w) x) whole c.requires.ready }

pub method-requires : goal.method-requires
unfolding member_kind
method-requires g c =
    let w = c.args.of.now in
    let m = c.args.member.now.mark in
    let whole : member_of c.args.member.now ≡ syntax.method m (map modifier_of c.deref-in-Method.result.now) (option_map type_of c.in-Method.ret) (word_of c.in-Method.name) (map param_of c.deref-in-Method-2.result.now) (stmts_of c.deref-in-Method-3.result.now) = ap (member_kind m) c.in-Method.is ∙ (λ i. syntax.method m (map modifier_of (sym c.deref-in-Method.ensures.value i)) (option_map type_of c.in-Method.ret) (word_of c.in-Method.name) (map param_of (sym c.deref-in-Method-2.ensures.value i)) (stmts_of (sym c.deref-in-Method-3.ensures.value i))) in
    record { walked = c.requires.walked; ready = subst (λ (x : syntax.Member Span). MemberReady (rows_of w) w.bound.now w.from (key_of w) x) whole c.requires.ready }

pub ctor-requires : goal.ctor-requires
unfolding member_kind
ctor-requires g c =
    let w = c.args.of.now in
    let p = g.V.View.program c.args.view.now in
    let m = c.args.member.now.mark in
    let whole : member_of c.args.member.now ≡ syntax.constructor m (map modifier_of c.deref-in-Ctor.result.now) (word_of c.in-Ctor.name) (map param_of c.deref-in-Ctor-2.result.now) (args_of c.in-Ctor.parent_args) (stmts_of c.deref-in-Ctor-3.result.now) = ap (member_kind m) c.in-Ctor.is ∙ (λ i. syntax.constructor m (map modifier_of (sym c.deref-in-Ctor.ensures.value i)) (word_of c.in-Ctor.name) (map param_of (sym c.deref-in-Ctor-2.ensures.value i)) (args_of c.in-Ctor.parent_args) (stmts_of (sym c.deref-in-Ctor-3.ensures.value i))) in
    record { walked = c.requires.walked; file = c.requires.file; ready = subst (λ (x : syntax.Member Span). MemberReady (rows_of w) w.bound.now w.from (key_of w) x) whole c.requires.ready; stands = subst (λ (x : syntax.Member Span). HasSuperAt p c.args.file x (p.super_at (key_of w))) whole c.requires.stands }

pub returns-in-Field : goal.returns-in-Field
unfolding member_kind
returns-in-Field g c =
    let w = c.args.of.now in
    let p = g.V.View.program c.args.view.now in
    let old = gathered c.args.out.now in
    let new = gathered c.field.new.out in
    let m = c.args.member.now.mark in
    let whole : member_of c.args.member.now ≡ syntax.field m (map modifier_of c.deref.result.now) (type_of c.in-Field.ty) (word_of c.in-Field.name) (option_map expr_of c.in-Field.init) = ap (member_kind m) c.in-Field.is ∙ ap (λ (ms : List (Modifier Span)). syntax.field m (map modifier_of ms) (type_of c.in-Field.ty) (word_of c.in-Field.name) (option_map expr_of c.in-Field.init)) (sym c.deref.ensures.value) in
    IfOk-weaker c.field.result _ _ (λ _ x. λ base. subst (λ (y : syntax.Member Span). MemberGathers p (rows_of w) (mapping_of w) (key_of w) base y old new) (sym whole) (field_gives (rows_of w) (mapping_of w) p (key_of w) m (map modifier_of c.deref.result.now) (type_of c.in-Field.ty) (word_of c.in-Field.name) (option_map expr_of c.in-Field.init) old new x base)) c.field.ensures

pub returns-in-Method : goal.returns-in-Method
unfolding member_kind
returns-in-Method g c =
    let w = c.args.of.now in
    let p = g.V.View.program c.args.view.now in
    let old = gathered c.args.out.now in
    let new = gathered c.method.new.out in
    let m = c.args.member.now.mark in
    let whole : member_of c.args.member.now ≡ syntax.method m (map modifier_of c.deref-in-Method.result.now) (option_map type_of c.in-Method.ret) (word_of c.in-Method.name) (map param_of c.deref-in-Method-2.result.now) (stmts_of c.deref-in-Method-3.result.now) = ap (member_kind m) c.in-Method.is ∙ (λ i. syntax.method m (map modifier_of (sym c.deref-in-Method.ensures.value i)) (option_map type_of c.in-Method.ret) (word_of c.in-Method.name) (map param_of (sym c.deref-in-Method-2.ensures.value i)) (stmts_of (sym c.deref-in-Method-3.ensures.value i))) in
    IfOk-weaker c.method.result _ _ (λ _ x. λ base. subst (λ (y : syntax.Member Span). MemberGathers p (rows_of w) (mapping_of w) (key_of w) base y old new) (sym whole) (method_gives (rows_of w) (mapping_of w) p (key_of w) m (map modifier_of c.deref-in-Method.result.now) (option_map type_of c.in-Method.ret) (word_of c.in-Method.name) (map param_of c.deref-in-Method-2.result.now) (stmts_of c.deref-in-Method-3.result.now) old new x base)) c.method.ensures

pub returns-in-Ctor : goal.returns-in-Ctor
unfolding member_kind
returns-in-Ctor g c =
    let w = c.args.of.now in
    let p = g.V.View.program c.args.view.now in
    let old = gathered c.args.out.now in
    let new = gathered c.ctor.new.out in
    let m = c.args.member.now.mark in
    let whole : member_of c.args.member.now ≡ syntax.constructor m (map modifier_of c.deref-in-Ctor.result.now) (word_of c.in-Ctor.name) (map param_of c.deref-in-Ctor-2.result.now) (args_of c.in-Ctor.parent_args) (stmts_of c.deref-in-Ctor-3.result.now) = ap (member_kind m) c.in-Ctor.is ∙ (λ i. syntax.constructor m (map modifier_of (sym c.deref-in-Ctor.ensures.value i)) (word_of c.in-Ctor.name) (map param_of (sym c.deref-in-Ctor-2.ensures.value i)) (args_of c.in-Ctor.parent_args) (stmts_of (sym c.deref-in-Ctor-3.ensures.value i))) in
    IfOk-weaker c.ctor.result _ _ (λ _ x. λ base. subst (λ (y : syntax.Member Span). MemberGathers p (rows_of w) (mapping_of w) (key_of w) base y old new) (sym whole) (ctor_gives (rows_of w) (mapping_of w) p (key_of w) m (map modifier_of c.deref-in-Ctor.result.now) (word_of c.in-Ctor.name) (map param_of c.deref-in-Ctor-2.result.now) (args_of c.in-Ctor.parent_args) (stmts_of c.deref-in-Ctor-3.result.now) old new x base)) c.ctor.ensures

pub returns-in-Inner : goal.returns-in-Inner
unfolding member_kind
returns-in-Inner g c = absurd (subst (λ (x : syntax.Member Span). MemberReady (rows_of c.args.of.now) c.args.of.now.bound.now c.args.of.now.from (key_of c.args.of.now) x) (ap (member_kind c.args.member.now.mark) c.in-Inner.is) c.requires.ready)
