use Rattle.std.proofs.Common.{◌≡◌, ◌+◌, ◌-◌, ℕ, List, [], length, map, ap, sym, subst, ◌∙◌}
use Rattle.std.specs.Prelude.{option_map}
use Rattle.std.proofs.lemmas.List.{length-map}
use Rattle.jr_text.specs.declared.spans.Span.{Span}
use Rattle.jr_ast.specs.MemberTree as declared
use Rattle.jr_ast.specs.declared.stmts.Stmt.{Stmt}
use Rattle.jr_ast.specs.declared.parts.Modifier.{Modifier}
use Rattle.jr_ast.specs.View.{word_of, type_of, expr_of, args_of, stmts_of, modifier_of, param_of, class_of, member_of, member_kind}
use Rattle.jr_bind_expr.specs.Fits.{FitsMaybe, FitsStmts}
use Rattle.jr_runs.specs.MemberTranslation as locked
use Rattle.jr_expr_sites.specs.StepView.{given}
use Rattle.jr_expr_sites.specs.Routes.{Walked, begins_by}
use Rattle.jr_cfg.specs.StatementRoutes.{NumberedAll, WalkedSo}
use Rattle.jr_cfg.specs.MemberRoutes.{FitsArgs, FitsSites, call_place}
use Rattle.jr_cfg.specs.MemberRoutes as route
use Rattle.jr_expr_sites.proofs.Walking.{on_ok_then}
use Rattle.jr_cfg.proofs.Bodies as body
use Rattle.jr_cfg.proofs.members.member.Goals as goal

pub field-requires : goal.field-requires
unfolding member_kind
field-requires g c =
    let T = g.A.Mark.span_from in
    let F = g.A.Mark.fits_at in
    let base = c.args.base in
    let m = c.args.member.now.mark in
    let start = c.requires.start in
    let whole : member_of c.args.member.now ≡ declared.field m (map modifier_of c.in-Field.modifiers.items) (type_of c.in-Field.ty) (word_of c.in-Field.name) (option_map expr_of c.in-Field.init) = ap (member_kind m) c.in-Field.is in
    let f = subst (λ (x : declared.Member g.row.A.Denot). FitsSites T F base x) whole c.requires.fits in
    record {
      fits = subst (λ (n : ℕ). FitsMaybe (begins_by T) F n (option_map expr_of c.in-Field.init)) (sym start) f.2;
      fits_name = subst (λ (n : ℕ). F c.in-Field.name.mark n) (sym start) f.1;
    }

pub span-requires : goal.span-requires
unfolding member_kind
span-requires g c =
    let T = g.A.Mark.span_from in
    let F = g.A.Mark.fits_at in
    let base = c.args.base in
    let m = c.args.member.now.mark in
    let whole : member_of c.args.member.now ≡ declared.method m (map modifier_of c.in-Method.modifiers.items) (option_map type_of c.in-Method.ret) (word_of c.in-Method.name) (map param_of c.in-Method.params.items) (stmts_of c.in-Method.body.items) = ap (member_kind m) c.in-Method.is in
    let f = subst (λ (x : declared.Member g.row.A.Denot). FitsSites T F base x) whole c.requires.fits in
    f.0

pub method-requires : goal.method-requires
unfolding member_kind
method-requires g c =
    let T = g.A.Mark.span_from in
    let F = g.A.Mark.fits_at in
    let base = c.args.base in
    let m = c.args.member.now.mark in
    let start = c.requires.start in
    let whole : member_of c.args.member.now ≡ declared.method m (map modifier_of c.in-Method.modifiers.items) (option_map type_of c.in-Method.ret) (word_of c.in-Method.name) (map param_of c.in-Method.params.items) (stmts_of c.in-Method.body.items) = ap (member_kind m) c.in-Method.is in
    let f = subst (λ (x : declared.Member g.row.A.Denot). FitsSites T F base x) whole c.requires.fits in
    record {
      fits = subst (λ (n : ℕ). FitsStmts (begins_by T) F n (stmts_of c.deref-in-Method-3.result.now)) (sym start)
          (subst (λ (xs : List (Stmt g.row.A.Denot)). FitsStmts (begins_by T) F (begins_by T m base) (stmts_of xs)) (sym c.deref-in-Method-3.ensures.value) f.2);
      fits_name = subst (λ (n : ℕ). F c.in-Method.name.mark n) (sym start) f.1;
    }

pub constructor-requires : goal.constructor-requires
unfolding member_kind
constructor-requires g c =
    let T = g.A.Mark.span_from in
    let F = g.A.Mark.fits_at in
    let base = c.args.base in
    let m = c.args.member.now.mark in
    let start = c.requires.start in
    let whole : member_of c.args.member.now ≡ declared.constructor m (map modifier_of c.in-Ctor.modifiers.items) (word_of c.in-Ctor.name) (map param_of c.in-Ctor.params.items) (args_of c.in-Ctor.parent_args) (stmts_of c.in-Ctor.body.items) = ap (member_kind m) c.in-Ctor.is in
    let f = subst (λ (x : declared.Member g.row.A.Denot). FitsSites T F base x) whole c.requires.fits in
    record {
      fits = subst (λ (n : ℕ). FitsStmts (begins_by T) F n (stmts_of c.deref-in-Ctor-3.result.now)) (sym start)
          (subst (λ (xs : List (Stmt g.row.A.Denot)). FitsStmts (begins_by T) F (begins_by T m base) (stmts_of xs)) (sym c.deref-in-Ctor-3.ensures.value) f.3);
      fits_name = subst (λ (n : ℕ). F c.in-Ctor.name.mark n) (sym start) f.1;
      fits_args = subst (λ (n : ℕ). FitsArgs T F n (args_of c.in-Ctor.parent_args)) (sym start) f.2;
    }

pub returns-in-Field : goal.returns-in-Field
unfolding member_kind
returns-in-Field g c k is =
    let T = g.A.Mark.span_from in
    let G = given g.F.Facts.decls g.F.Facts.types c.args.here.now in
    let at = c.args.here.now.start in
    let old = c.args.out.now.items in
    let base = c.args.base in
    let m = c.args.member.now.mark in
    let start = c.requires.start in
    let whole : member_of c.args.member.now ≡ declared.field m (map modifier_of c.in-Field.modifiers.items) (type_of c.in-Field.ty) (word_of c.in-Field.name) (option_map expr_of c.in-Field.init) = ap (member_kind m) c.in-Field.is in
    let new = c.field.new.out.items in
    on_ok_then c.field.result (λ h. subst (λ (x : declared.Member g.row.A.Denot). WalkedSo G (route.NumbersMember T base x) (route.member T c.args.super_at base k x) old new) (sym whole)
    (body.field_gives T G c.args.super_at base k old new m at start (map modifier_of c.in-Field.modifiers.items) (type_of c.in-Field.ty) (word_of c.in-Field.name) (option_map expr_of c.in-Field.init)
    (subst (λ (xs : List (Modifier g.row.A.Denot)). Walked G (route.field T (map modifier_of xs) at (begins_by T c.in-Field.name.mark at) k (option_map expr_of c.in-Field.init)) old new) c.deref.ensures.value h))) (c.field.ensures k (subst (λ (x : declared.Member g.row.A.Denot). route.IsKeyOf G.member k x) whole is))

pub returns-in-Method : goal.returns-in-Method
unfolding member_kind
returns-in-Method g c k is =
    let T = g.A.Mark.span_from in
    let G = given g.F.Facts.decls g.F.Facts.types c.args.here.now in
    let at = c.args.here.now.start in
    let old = c.args.out.now.items in
    let base = c.args.base in
    let m = c.args.member.now.mark in
    let start = c.requires.start in
    let whole : member_of c.args.member.now ≡ declared.method m (map modifier_of c.in-Method.modifiers.items) (option_map type_of c.in-Method.ret) (word_of c.in-Method.name) (map param_of c.in-Method.params.items) (stmts_of c.in-Method.body.items) = ap (member_kind m) c.in-Method.is in
    let new = c.method.new.out.items in
    on_ok_then c.method.result (λ h. subst (λ (x : declared.Member g.row.A.Denot). WalkedSo G (route.NumbersMember T base x) (route.member T c.args.super_at base k x) old new) (sym whole)
    (body.method_gives T G c.args.super_at base k old new m at start (map modifier_of c.in-Method.modifiers.items) (option_map type_of c.in-Method.ret) (word_of c.in-Method.name) (map param_of c.in-Method.params.items) (stmts_of c.in-Method.body.items) c.saturating_sub-last.result (length c.in-Method.params.items)
    (c.saturating_sub-last.ensures ∙ ap (λ (z : Span). z.to - 1) c.span.ensures) (sym (length-map c.in-Method.params.items param_of))
    (subst (λ (X : Type 0). X) (λ i. WalkedSo G (NumberedAll T (length (c.deref-in-Method-2.ensures.value i)) [] (route.method_front T (map modifier_of (c.deref-in-Method.ensures.value i)) (option_map type_of c.in-Method.ret) (map param_of (c.deref-in-Method-2.ensures.value i))) at (stmts_of (c.deref-in-Method-3.ensures.value i)))
    (route.method T (locked.is_synchronized (map modifier_of (c.deref-in-Method.ensures.value i))) (route.method_front T (map modifier_of (c.deref-in-Method.ensures.value i)) (option_map type_of c.in-Method.ret) (map param_of (c.deref-in-Method-2.ensures.value i))) at (begins_by T c.in-Method.name.mark at) c.saturating_sub-last.result (stmts_of (c.deref-in-Method-3.ensures.value i))) old new) h))) (c.method.ensures)

pub returns-in-Ctor : goal.returns-in-Ctor
unfolding member_kind
returns-in-Ctor g c k is =
    let T = g.A.Mark.span_from in
    let G = given g.F.Facts.decls g.F.Facts.types c.args.here.now in
    let at = c.args.here.now.start in
    let old = c.args.out.now.items in
    let base = c.args.base in
    let m = c.args.member.now.mark in
    let start = c.requires.start in
    let whole : member_of c.args.member.now ≡ declared.constructor m (map modifier_of c.in-Ctor.modifiers.items) (word_of c.in-Ctor.name) (map param_of c.in-Ctor.params.items) (args_of c.in-Ctor.parent_args) (stmts_of c.in-Ctor.body.items) = ap (member_kind m) c.in-Ctor.is in
    let new = c.constructor.new.out.items in
    on_ok_then c.constructor.result (λ h. subst (λ (x : declared.Member g.row.A.Denot). WalkedSo G (route.NumbersMember T base x) (route.member T c.args.super_at base k x) old new) (sym whole)
    (body.constructor_gives T G c.args.super_at base k old new m at start (map modifier_of c.in-Ctor.modifiers.items) (word_of c.in-Ctor.name) (map param_of c.in-Ctor.params.items) (args_of c.in-Ctor.parent_args) (stmts_of c.in-Ctor.body.items) (length c.in-Ctor.params.items) (sym (length-map c.in-Ctor.params.items param_of))
    (subst (λ (X : Type 0). X) (λ i. WalkedSo G (NumberedAll T (length (c.deref-in-Ctor-2.ensures.value i)) [] (route.constructor_front T (map modifier_of (c.deref-in-Ctor.ensures.value i)) (map param_of (c.deref-in-Ctor-2.ensures.value i)) + route.arguments T (args_of c.in-Ctor.parent_args)) at (stmts_of (c.deref-in-Ctor-3.ensures.value i)))
    (route.constructor T (route.constructor_front T (map modifier_of (c.deref-in-Ctor.ensures.value i)) (map param_of (c.deref-in-Ctor-2.ensures.value i))) at (call_place (args_of c.in-Ctor.parent_args) c.args.super_at (begins_by T c.in-Ctor.name.mark at)) (args_of c.in-Ctor.parent_args) (stmts_of (c.deref-in-Ctor-3.ensures.value i))) old new) h))) (c.constructor.ensures)

pub returns-in-Inner : goal.returns-in-Inner
unfolding member_kind
returns-in-Inner g c k is =
    let T = g.A.Mark.span_from in
    let G = given g.F.Facts.decls g.F.Facts.types c.args.here.now in
    let at = c.args.here.now.start in
    let old = c.args.out.now.items in
    let base = c.args.base in
    let m = c.args.member.now.mark in
    let start = c.requires.start in
    let whole : member_of c.args.member.now ≡ declared.inner m (class_of c.in-Inner.field-0) = ap (member_kind m) c.in-Inner.is in
    let new = c.put_nothing.new.out.items in
    on_ok_then c.put_nothing.result (λ h. subst (λ (x : declared.Member g.row.A.Denot). WalkedSo G (route.NumbersMember T base x) (route.member T c.args.super_at base k x) old new) (sym whole)
    (body.inner_gives T G c.args.super_at base k old new m at start (class_of c.in-Inner.field-0) h)) (c.put_nothing.ensures G)
