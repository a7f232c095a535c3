use Rattle.std.proofs.Common.{◌≡◌, ℕ, ◌+◌, List, length, map, option_map, ap, sym, subst}
use Rattle.jr_ast.specs.declared.stmts.Stmt.{Stmt}
use Rattle.jr_ast.specs.View.{expr_of, stmts_of}
use Rattle.jr_bind_expr.specs.Fits.{FitsStmts}
use Rattle.jr_cover.specs.Spots.{spot_stmts}
use Rattle.jr_expr_sites.specs.StepView.{given}
use Rattle.jr_expr_sites.specs.KnownFacts.{known_of}
use Rattle.jr_expr_sites.specs.Routes.{begins_by, ends_by}
use Rattle.jr_piece_sites.specs.Growth.{GrownTo}
use Rattle.jr_cfg.specs.StatementRoutes.{NumberedAll}
use Rattle.jr_piece_sites.specs.Pieces.{locals_up_to}
use Rattle.jr_piece_sites.proofs.Growths as growth
use Rattle.jr_ast.specs.MemberTree as declared
use Rattle.jr_ast.specs.declared.parts.Modifier.{Modifier}
use Rattle.jr_ast.specs.declared.parts.Param.{Param}
use Rattle.jr_ast.specs.View.{args_of, modifier_of, param_of, type_of, member_of, word_of, class_of, member_kind, member_row}
use Rattle.jr_runs.specs.MemberTranslation.{is_synchronized}
use Rattle.jr_cfg.specs.MemberRoutes.{FitsArgs, FitsSites}
use Rattle.jr_cover.specs.Spots.{spot_args}
use Rattle.jr_piece_sites.specs.Fronts.{method_body, constructor_body}
use Rattle.jr_piece_sites.specs.Parts.{behind}
use Rattle.jr_piece_sites.specs.Pieces.{method_front, constructor_front, arguments, constructor_locals}
use Rattle.jr_piece_sites.proofs.MemberArms as arm
use Rattle.jr_piece_sites.proofs.member_fronts.member_front.Goals as goal

pub method_front-requires : goal.method_front-requires
unfolding member_kind class_of member_row
method_front-requires g c =
    let T = g.A.Mark.span_from in
    let F = g.A.Mark.fits_at in
    let base = c.args.base in
    let m = c.args.of.now.mark in
    let start = c.requires.start in
    let is : member_of c.args.of.now ≡ declared.method m (map modifier_of c.in-Method.modifiers.items) (option_map type_of c.in-Method.ret) (word_of c.in-Method.name) (map param_of c.in-Method.params.items) (stmts_of c.in-Method.body.items) = ap (member_kind m) c.in-Method.is in
    let f = subst (λ (x : declared.Member g.row.A.Denot). FitsSites T F base x) is c.requires.fits in
    record { fits = subst (λ (n : ℕ). FitsStmts (begins_by T) F n (stmts_of c.deref-in-Method-2.result.now)) (sym start) (subst (λ (xs : List (Stmt g.row.A.Denot)). FitsStmts (begins_by T) F (begins_by T m base) (stmts_of xs)) (sym c.deref-in-Method-2.ensures.value) f.2) }

pub constructor_front-requires : goal.constructor_front-requires
unfolding member_kind class_of member_row
constructor_front-requires g c =
    let T = g.A.Mark.span_from in
    let F = g.A.Mark.fits_at in
    let base = c.args.base in
    let m = c.args.of.now.mark in
    let start = c.requires.start in
    let is : member_of c.args.of.now ≡ declared.constructor m (map modifier_of c.in-Ctor.modifiers.items) (word_of c.in-Ctor.name) (map param_of c.in-Ctor.params.items) (args_of c.in-Ctor.parent_args) (stmts_of c.in-Ctor.body.items) = ap (member_kind m) c.in-Ctor.is in
    let f = subst (λ (x : declared.Member g.row.A.Denot). FitsSites T F base x) is c.requires.fits in
    record {
      fits = subst (λ (n : ℕ). FitsStmts (begins_by T) F n (stmts_of c.deref-in-Ctor-3.result.now)) (sym start) (subst (λ (xs : List (Stmt g.row.A.Denot)). FitsStmts (begins_by T) F (begins_by T m base) (stmts_of xs)) (sym c.deref-in-Ctor-3.ensures.value) f.3);
      fits_args = subst (λ (n : ℕ). FitsArgs T F n (args_of c.in-Ctor.parent_args)) (sym start) f.2;
    }

pub returns-in-Field : goal.returns-in-Field
unfolding member_kind class_of member_row
returns-in-Field g c =
    let T = g.A.Mark.span_from in
    let G = given g.F.Facts.decls g.F.Facts.types c.args.here.now in
    let path = c.args.path.now.steps.items in
    let old = c.args.out.now.items in
    let base = c.args.base in
    let i = c.args.part in
    let m = c.args.of.now.mark in
    let at = c.args.here.now.start in
    let start = c.requires.start in
    let is : member_of c.args.of.now ≡ declared.field m (map modifier_of c.in-Field.modifiers.items) (type_of c.in-Field.ty) (word_of c.in-Field.name) (option_map expr_of c.in-Field.init) = ap (member_kind m) c.in-Field.is in
    subst (λ (x : declared.Member g.row.A.Denot). arm.Whole T base m at start G path i old x 0 old) (sym is) (arm.field_put T base m at start G path i old (map modifier_of c.in-Field.modifiers.items) (type_of c.in-Field.ty) (word_of c.in-Field.name) (option_map expr_of c.in-Field.init))

pub returns-in-Inner : goal.returns-in-Inner
unfolding member_kind class_of member_row
returns-in-Inner g c =
    let T = g.A.Mark.span_from in
    let G = given g.F.Facts.decls g.F.Facts.types c.args.here.now in
    let path = c.args.path.now.steps.items in
    let old = c.args.out.now.items in
    let base = c.args.base in
    let i = c.args.part in
    let m = c.args.of.now.mark in
    let at = c.args.here.now.start in
    let start = c.requires.start in
    let is : member_of c.args.of.now ≡ declared.inner m (class_of c.in-Inner.field-0) = ap (member_kind m) c.in-Inner.is in
    subst (λ (x : declared.Member g.row.A.Denot). arm.Whole T base m at start G path i old x 0 old) (sym is) (arm.inner_put T base m at start G path i old (class_of c.in-Inner.field-0))

pub returns-in-Method : goal.returns-in-Method
unfolding member_kind class_of member_row
returns-in-Method g c =
    let T = g.A.Mark.span_from in
    let G = given g.F.Facts.decls g.F.Facts.types c.args.here.now in
    let path = c.args.path.now.steps.items in
    let old = c.args.out.now.items in
    let base = c.args.base in
    let i = c.args.part in
    let m = c.args.of.now.mark in
    let at = c.args.here.now.start in
    let start = c.requires.start in
    let is : member_of c.args.of.now ≡ declared.method m (map modifier_of c.in-Method.modifiers.items) (option_map type_of c.in-Method.ret) (word_of c.in-Method.name) (map param_of c.in-Method.params.items) (stmts_of c.in-Method.body.items) = ap (member_kind m) c.in-Method.is in
    let new = c.method_front.new.out.items in
    let t = option_map type_of c.in-Method.ret in
    let all = λ (ms : List (Modifier g.row.A.Denot)) (ps : List (Param g.row.A.Denot)) (ss : List (Stmt g.row.A.Denot)) (k : ℕ). GrownTo G (NumberedAll T (length (map param_of ps)) path (method_front (map modifier_of ms) t (map param_of ps)) at (stmts_of ss))
    (λ o. behind 0 (method_front (map modifier_of ms) t (map param_of ps)) (method_body (known_of G o) (is_synchronized (map modifier_of ms)) (spot_stmts (begins_by T) (ends_by T) (stmts_of ss) at path (method_front (map modifier_of ms) t (map param_of ps)))) i)
    (length (map param_of ps) + behind 0 (method_front (map modifier_of ms) t (map param_of ps)) (locals_up_to (stmts_of ss)) i) k old new in
    growth.if_ok_then c.method_front.result (λ k p. subst (λ (x : declared.Member g.row.A.Denot). arm.Whole T base m at start G path i old x k new) (sym is) (arm.method_put T base m at start G path i old (map modifier_of c.in-Method.modifiers.items) t (word_of c.in-Method.name) (map param_of c.in-Method.params.items) (stmts_of c.in-Method.body.items) k new (subst (λ (X : Type 0). X) (λ z. all (c.deref.ensures.value z) (c.deref-in-Method.ensures.value z) (c.deref-in-Method-2.ensures.value z) k) p))) c.method_front.ensures

pub returns-in-Ctor : goal.returns-in-Ctor
unfolding member_kind class_of member_row
returns-in-Ctor g c =
    let T = g.A.Mark.span_from in
    let G = given g.F.Facts.decls g.F.Facts.types c.args.here.now in
    let path = c.args.path.now.steps.items in
    let old = c.args.out.now.items in
    let base = c.args.base in
    let i = c.args.part in
    let m = c.args.of.now.mark in
    let at = c.args.here.now.start in
    let start = c.requires.start in
    let is : member_of c.args.of.now ≡ declared.constructor m (map modifier_of c.in-Ctor.modifiers.items) (word_of c.in-Ctor.name) (map param_of c.in-Ctor.params.items) (args_of c.in-Ctor.parent_args) (stmts_of c.in-Ctor.body.items) = ap (member_kind m) c.in-Ctor.is in
    let new = c.constructor_front.new.out.items in
    let args = args_of c.in-Ctor.parent_args in
    let all = λ (ms : List (Modifier g.row.A.Denot)) (ps : List (Param g.row.A.Denot)) (ss : List (Stmt g.row.A.Denot)) (k : ℕ). GrownTo G (NumberedAll T (length (map param_of ps)) path (constructor_front (map modifier_of ms) (map param_of ps) + arguments args) at (stmts_of ss))
    (λ o. behind 0 (constructor_front (map modifier_of ms) (map param_of ps)) (constructor_body (known_of G o) (spot_args (begins_by T) (ends_by T) args at path (constructor_front (map modifier_of ms) (map param_of ps))) (spot_stmts (begins_by T) (ends_by T) (stmts_of ss) at path (constructor_front (map modifier_of ms) (map param_of ps) + arguments args))) i)
    (length (map param_of ps) + behind 0 (constructor_front (map modifier_of ms) (map param_of ps)) (constructor_locals args (stmts_of ss)) i) k old new in
    growth.if_ok_then c.constructor_front.result (λ k p. subst (λ (x : declared.Member g.row.A.Denot). arm.Whole T base m at start G path i old x k new) (sym is) (arm.constructor_put T base m at start G path i old (map modifier_of c.in-Ctor.modifiers.items) (word_of c.in-Ctor.name) (map param_of c.in-Ctor.params.items) args (stmts_of c.in-Ctor.body.items) k new (subst (λ (X : Type 0). X) (λ z. all (c.deref-in-Ctor.ensures.value z) (c.deref-in-Ctor-2.ensures.value z) (c.deref-in-Ctor-3.ensures.value z) k) p))) c.constructor_front.ensures
