use Rattle.std.proofs.Common.{◌≡◌, ◌+◌, ℕ, Bool, suc, List, [], ◌++◌, length, map, ap, sym, subst, ◌∙◌}
use Rattle.std.specs.Prelude.{IfOk, option_map}
use Rattle.std.proofs.lemmas.List.{length-map}
use Rattle.jr_ast.specs.MemberTree as declared
use Rattle.jr_ast.specs.declared.stmts.Stmt.{Stmt}
use Rattle.jr_ast.specs.View.{word_of, type_of, expr_of, args_of, stmts_of, modifier_of, param_of, class_of, member_of, member_kind}
use Rattle.jr_bind_expr.specs.Fits.{FitsStmts}
use Rattle.jr_cfg.specs.MemberRoutes.{FitsArgs, FitsSites}
use Rattle.jr_cover.specs.Spots.{result_count, args_count}
use Rattle.jr_expr_sites.specs.KnownFacts.{meaning_at}
use Rattle.jr_expr_sites.specs.StepView.{given}
use Rattle.jr_expr_sites.specs.Routes.{begins_by, ends_by}
use Rattle.jr_member_graphs.specs.Notes.{args_locals, stmts_notes}
use Rattle.jr_member_graphs.specs.OwnFlags.{flags_of}
use Rattle.jr_member_graphs.proofs.MemberFlags as kind
use Rattle.jr_member_graphs.proofs.members.member_flags.Goals as goal

pub method_flags-requires : goal.method_flags-requires
unfolding member_kind
method_flags-requires g c =
    let T = g.A.Mark.span_from in
    let F = g.A.Mark.fits_at in
    let base = c.args.base in
    let m = c.args.member.now.mark in
    let start = c.requires.start in
    let whole : member_of c.args.member.now ≡ declared.method m (map modifier_of c.in-Method.modifiers.items) (option_map type_of c.in-Method.ret) (word_of c.in-Method.name) (map param_of c.in-Method.params.items) (stmts_of c.in-Method.body.items) = ap (member_kind m) c.in-Method.is in
    let f = subst (λ (x : declared.Member g.row.A.Denot). FitsSites T F base x) whole c.requires.fits in
    record {
      fits = subst (λ (n : ℕ). FitsStmts (begins_by T) F n (stmts_of c.deref.result.now)) (sym start)
          (subst (λ (xs : List (Stmt g.row.A.Denot)). FitsStmts (begins_by T) F (begins_by T m base) (stmts_of xs)) (sym c.deref.ensures.value) f.2);
    }

pub constructor_flags-requires : goal.constructor_flags-requires
unfolding member_kind
constructor_flags-requires g c =
    let T = g.A.Mark.span_from in
    let F = g.A.Mark.fits_at in
    let base = c.args.base in
    let m = c.args.member.now.mark in
    let start = c.requires.start in
    let whole : member_of c.args.member.now ≡ declared.constructor m (map modifier_of c.in-Ctor.modifiers.items) (word_of c.in-Ctor.name) (map param_of c.in-Ctor.params.items) (args_of c.in-Ctor.parent_args) (stmts_of c.in-Ctor.body.items) = ap (member_kind m) c.in-Ctor.is in
    let f = subst (λ (x : declared.Member g.row.A.Denot). FitsSites T F base x) whole c.requires.fits in
    record {
      fits = subst (λ (n : ℕ). FitsStmts (begins_by T) F n (stmts_of c.deref-in-Ctor.result.now)) (sym start)
          (subst (λ (xs : List (Stmt g.row.A.Denot)). FitsStmts (begins_by T) F (begins_by T m base) (stmts_of xs)) (sym c.deref-in-Ctor.ensures.value) f.3);
      fits_args = subst (λ (n : ℕ). FitsArgs T F n (args_of c.in-Ctor.parent_args)) (sym start) f.2;
    }

pub returns-in-Field : goal.returns-in-Field
unfolding member_kind
returns-in-Field g c =
    let T = g.A.Mark.span_from in
    let G = given g.F.Facts.decls g.F.Facts.types c.args.here.now in
    let base = c.args.base in
    let m = c.args.member.now.mark in
    let whole : member_of c.args.member.now ≡ declared.field m (map modifier_of c.in-Field.modifiers.items) (type_of c.in-Field.ty) (word_of c.in-Field.name) (option_map expr_of c.in-Field.init) = ap (member_kind m) c.in-Field.is in
    c.new.ensures.items ∙ kind.field_flags T G base m c.args.here.now.start c.requires.start (map modifier_of c.in-Field.modifiers.items) (type_of c.in-Field.ty) (word_of c.in-Field.name) (option_map expr_of c.in-Field.init)
    ∙ sym (ap (flags_of T G base) whole)

pub returns-in-Inner : goal.returns-in-Inner
unfolding member_kind
returns-in-Inner g c =
    let T = g.A.Mark.span_from in
    let G = given g.F.Facts.decls g.F.Facts.types c.args.here.now in
    let base = c.args.base in
    let m = c.args.member.now.mark in
    let whole : member_of c.args.member.now ≡ declared.inner m (class_of c.in-Inner.field-0) = ap (member_kind m) c.in-Inner.is in
    c.new-in-Inner.ensures.items ∙ kind.inner_flags T G base m c.args.here.now.start c.requires.start (class_of c.in-Inner.field-0) ∙ sym (ap (flags_of T G base) whole)

pub returns-in-Method : goal.returns-in-Method
unfolding member_kind
returns-in-Method g c =
    let T = g.A.Mark.span_from in
    let G = given g.F.Facts.decls g.F.Facts.types c.args.here.now in
    let base = c.args.base in
    let m = c.args.member.now.mark in
    let at = c.args.here.now.start in
    let start = c.requires.start in
    let mods = map modifier_of c.in-Method.modifiers.items in
    let t = option_map type_of c.in-Method.ret in
    let ps = map param_of c.in-Method.params.items in
    let body = stmts_of c.in-Method.body.items in
    let whole : member_of c.args.member.now ≡ declared.method m mods t (word_of c.in-Method.name) ps body = ap (member_kind m) c.in-Method.is in
    let first = suc (length mods + result_count (begins_by T) (ends_by T) t) + length ps in
    let n = c.len.result in
    let count : n ≡ length ps = c.len.ensures ∙ c.in-Method.params.ok.0 ∙ sym (length-map c.in-Method.params.items param_of) in
    let all = ap (λ (xs : List (Stmt g.row.A.Denot)). kind.of_body T G base m at start (λ k. (stmts_notes T (meaning_at G) k (stmts_of xs)).writes) n first at (stmts_of xs)) c.deref.ensures.value
    ∙ kind.method_flags T G base m at start mods t (word_of c.in-Method.name) ps body n count ∙ sym (ap (flags_of T G base) whole) in
    subst (λ (l : List Bool). IfOk c.method_flags.result (λ v. v.items ≡ l)) all (c.method_flags.ensures [] first)

pub returns-in-Ctor : goal.returns-in-Ctor
unfolding member_kind
returns-in-Ctor g c =
    let T = g.A.Mark.span_from in
    let G = given g.F.Facts.decls g.F.Facts.types c.args.here.now in
    let base = c.args.base in
    let m = c.args.member.now.mark in
    let at = c.args.here.now.start in
    let start = c.requires.start in
    let mods = map modifier_of c.in-Ctor.modifiers.items in
    let ps = map param_of c.in-Ctor.params.items in
    let args = args_of c.in-Ctor.parent_args in
    let body = stmts_of c.in-Ctor.body.items in
    let whole : member_of c.args.member.now ≡ declared.constructor m mods (word_of c.in-Ctor.name) ps args body = ap (member_kind m) c.in-Ctor.is in
    let first = suc (length mods) + length ps + args_count (begins_by T) (ends_by T) args in
    let n = c.len-in-Ctor.result in
    let count : n ≡ length ps = c.len-in-Ctor.ensures ∙ c.in-Ctor.params.ok.0 ∙ sym (length-map c.in-Ctor.params.items param_of) in
    let all = ap (λ (xs : List (Stmt g.row.A.Denot)). kind.of_body T G base m at start (λ k. args_locals T (meaning_at G) k args ++ (stmts_notes T (meaning_at G) k (stmts_of xs)).writes) n first at (stmts_of xs)) c.deref-in-Ctor.ensures.value
    ∙ kind.constructor_flags T G base m at start mods (word_of c.in-Ctor.name) ps args body n count ∙ sym (ap (flags_of T G base) whole) in
    subst (λ (l : List Bool). IfOk c.constructor_flags.result (λ v. v.items ≡ l)) all (c.constructor_flags.ensures [] first)
