use Rattle.std.proofs.Common.{◌≡◌, ℕ, List, [], ◌∷◌, ◌++◌, Option, ap, sym, refl, subst, ◌∙◌, arith}
use Rattle.std.specs.Global.{Global}
use Rattle.std.specs.declared.boxed.Box.{Box}
use Rattle.jr_text.specs.declared.spans.Span.{Span}
use Rattle.jr_ast.specs.Tree as tree
use Rattle.jr_ast.specs.declared.exprs.Expr.{Expr}
use Rattle.jr_ast.specs.View.{word_of, type_of, expr_of, exprs_of, target_of, expr_kind, expr_row, held_target}
use Rattle.jr_ast.proofs.Rows.{expr_kind-Call_to, expr_kind-SuperCall, expr_kind-New, expr_mark_is}
use Rattle.jr_ast.proofs.Sizes.{exp_size, exps_size, target_size}
use Rattle.jr_bind_expr.specs.Fits.{FitsExp}
use Rattle.jr_bind_expr.proofs.Steps.{own_fits}
use Rattle.jr_cover.specs.Sites as sites
use Rattle.jr_cover.specs.Spots.{spot_exp, spot_exps}
use Rattle.jr_expr_sites.specs.Aims.{aim_view}
use Rattle.jr_expr_sites.specs.KnownFacts.{Others}
use Rattle.jr_expr_sites.specs.StepView.{given}
use Rattle.jr_expr_sites.specs.Routes.{Route, Steps, Walked, begins_by}
use Rattle.jr_expr_sites.specs.Routes as route
use Rattle.jr_expr_sites.proofs.Walking.{on_ok_then, row_goes}
use Rattle.jr_expr_sites.proofs.Spotted as spotted
use Rattle.jr_expr_sites.proofs.Arms as arm
use Rattle.jr_expr_sites.proofs.Arms.{falls_one, falls_two, falls_target, falls_item}
use Rattle.jr_expr_sites.proofs.walk.+walk.Goals as goal

pub expr-span-at-requires : goal.expr-span-at-requires
unfolding exp_size exps_size target_size expr_kind expr_row held_target spot_exp spot_exps
expr-span-at-requires g t c =
    own_fits (begins_by g.A.Mark.span_from) g.A.Mark.fits_at c.args.base c.args.of.now c.requires.fits

pub expr-simple-requires : goal.expr-simple-requires
unfolding exp_size exps_size target_size expr_kind expr_row held_target spot_exp spot_exps
expr-simple-requires g t c =
    let T = g.A.Mark.span_from in
    let F = g.A.Mark.fits_at in
    let G = given g.F.Facts.decls g.F.Facts.types c.args.here.now in
    let path = c.args.path.now.steps.items in
    let base = c.args.base in
    let m = c.args.of.now.mark in
    let at = c.span-at.result.from in
    let start : at ≡ (T m base).from = ap (λ (z : Span). z.from) c.span-at.ensures in
    let old = c.args.out.now.items in
    record { fits = arm.name_fits T F base m at start (word_of c.in-Simple.name) (subst (λ (e : tree.Exp g.row.A.Denot). FitsExp (begins_by T) F base e) (ap (expr_kind m) c.in-Simple.is) c.requires.fits) }

pub expr-on_super-requires : goal.expr-on_super-requires
unfolding exp_size exps_size target_size expr_kind expr_row held_target spot_exp spot_exps
expr-on_super-requires g t c =
    let T = g.A.Mark.span_from in
    let F = g.A.Mark.fits_at in
    let G = given g.F.Facts.decls g.F.Facts.types c.args.here.now in
    let path = c.args.path.now.steps.items in
    let base = c.args.base in
    let m = c.args.of.now.mark in
    let at = c.span-at.result.from in
    let start : at ≡ (T m base).from = ap (λ (z : Span). z.from) c.span-at.ensures in
    let old = c.args.out.now.items in
    record { fits = arm.super_fits T F base m at start (word_of c.in-SuperField.name) (subst (λ (e : tree.Exp g.row.A.Denot). FitsExp (begins_by T) F base e) (ap (expr_kind m) c.in-SuperField.is) c.requires.fits) }

pub expr-operand-requires : goal.expr-operand-requires
unfolding exp_size exps_size target_size expr_kind expr_row held_target spot_exp spot_exps
expr-operand-requires g t c =
    let T = g.A.Mark.span_from in
    let F = g.A.Mark.fits_at in
    let G = given g.F.Facts.decls g.F.Facts.types c.args.here.now in
    let path = c.args.path.now.steps.items in
    let base = c.args.base in
    let m = c.args.of.now.mark in
    let at = c.span-at.result.from in
    let start : at ≡ (T m base).from = ap (λ (z : Span). z.from) c.span-at.ensures in
    let old = c.args.out.now.items in
    let same = c.deref-in-Paren.ensures in
    λ κs o. (falls_one (exp_size (expr_of c.args.of.now)) _ _ 1 t (ap (λ (x : Expr g.row.A.Denot). exp_size (expr_of x)) same) (ap exp_size (ap (expr_kind m) c.in-Paren.is)) c.decreases (omega arith), (o.0, (o.1, arm.paren_fits T F base m at start c.deref-in-Paren.result.now c.in-Paren.part.value same (subst (λ (e : tree.Exp g.row.A.Denot). FitsExp (begins_by T) F base e) (ap (expr_kind m) c.in-Paren.is) c.requires.fits))))

pub expr-operand-requires-in-Unary : goal.expr-operand-requires-in-Unary
unfolding exp_size exps_size target_size expr_kind expr_row held_target spot_exp spot_exps
expr-operand-requires-in-Unary g t c =
    let T = g.A.Mark.span_from in
    let F = g.A.Mark.fits_at in
    let G = given g.F.Facts.decls g.F.Facts.types c.args.here.now in
    let path = c.args.path.now.steps.items in
    let base = c.args.base in
    let m = c.args.of.now.mark in
    let at = c.span-at.result.from in
    let start : at ≡ (T m base).from = ap (λ (z : Span). z.from) c.span-at.ensures in
    let old = c.args.out.now.items in
    let same = c.deref-in-Unary.ensures in
    λ κs o. (falls_one (exp_size (expr_of c.args.of.now)) _ _ 1 t (ap (λ (x : Expr g.row.A.Denot). exp_size (expr_of x)) same) (ap exp_size (ap (expr_kind m) c.in-Unary.is)) c.decreases (omega arith), (o.0, (o.1, arm.unary_fits T F base m at start c.in-Unary.field-0 c.deref-in-Unary.result.now c.in-Unary.part.value same (subst (λ (e : tree.Exp g.row.A.Denot). FitsExp (begins_by T) F base e) (ap (expr_kind m) c.in-Unary.is) c.requires.fits))))

pub expr-field-requires : goal.expr-field-requires
unfolding exp_size exps_size target_size expr_kind expr_row held_target spot_exp spot_exps
expr-field-requires g t c =
    let T = g.A.Mark.span_from in
    let F = g.A.Mark.fits_at in
    let G = given g.F.Facts.decls g.F.Facts.types c.args.here.now in
    let path = c.args.path.now.steps.items in
    let base = c.args.base in
    let m = c.args.of.now.mark in
    let at = c.span-at.result.from in
    let start : at ≡ (T m base).from = ap (λ (z : Span). z.from) c.span-at.ensures in
    let old = c.args.out.now.items in
    let same = c.deref.ensures in
    let n = arm.field_fits T F base m at start c.deref.result.now c.in-Field.part.value (word_of c.in-Field.name) same (subst (λ (e : tree.Exp g.row.A.Denot). FitsExp (begins_by T) F base e) (ap (expr_kind m) c.in-Field.is) c.requires.fits) in
    λ κs o. (falls_one (exp_size (expr_of c.args.of.now)) _ _ 3 t (ap (λ (x : Expr g.row.A.Denot). exp_size (expr_of x)) same) (ap exp_size (ap (expr_kind m) c.in-Field.is)) c.decreases (omega arith), (o.0, (o.1, (n.0, n.1))))

pub expr-call-requires : goal.expr-call-requires
unfolding exp_size exps_size target_size expr_kind expr_row held_target spot_exp spot_exps
expr-call-requires g t c =
    let T = g.A.Mark.span_from in
    let F = g.A.Mark.fits_at in
    let G = given g.F.Facts.decls g.F.Facts.types c.args.here.now in
    let path = c.args.path.now.steps.items in
    let base = c.args.base in
    let m = c.args.of.now.mark in
    let at = c.span-at.result.from in
    let start : at ≡ (T m base).from = ap (λ (z : Span). z.from) c.span-at.ensures in
    let old = c.args.out.now.items in
    let same = c.deref-in-Call.ensures.value in
    let n = arm.call_fits T F base m at start (target_of c.in-Call.target) (word_of c.in-Call.name) c.deref-in-Call.result.now c.in-Call.args.items same (subst (λ (e : tree.Exp g.row.A.Denot). FitsExp (begins_by T) F base e) (ap (expr_kind m) c.in-Call.is ∙ expr_kind-Call_to _ m c.in-Call.target c.in-Call.name c.in-Call.args) c.requires.fits) in
    λ κs o. (falls_two (exp_size (expr_of c.args.of.now)) _ _ _ _ 4 t refl (ap (λ (x : List (Expr g.row.A.Denot)). exps_size (exprs_of x)) same) (ap exp_size (ap (expr_kind m) c.in-Call.is ∙ expr_kind-Call_to _ m c.in-Call.target c.in-Call.name c.in-Call.args)) c.decreases (omega arith), (o.0, (o.1, (n.0, (n.1, n.2)))))

pub expr-super_call-requires : goal.expr-super_call-requires
unfolding exp_size exps_size target_size expr_kind expr_row held_target spot_exp spot_exps
expr-super_call-requires g t c =
    let T = g.A.Mark.span_from in
    let F = g.A.Mark.fits_at in
    let G = given g.F.Facts.decls g.F.Facts.types c.args.here.now in
    let path = c.args.path.now.steps.items in
    let base = c.args.base in
    let m = c.args.of.now.mark in
    let at = c.span-at.result.from in
    let start : at ≡ (T m base).from = ap (λ (z : Span). z.from) c.span-at.ensures in
    let old = c.args.out.now.items in
    let same = c.deref-in-SuperCall.ensures.value in
    let n = arm.super_call_fits T F base m at start (word_of c.in-SuperCall.name) c.deref-in-SuperCall.result.now c.in-SuperCall.args.items same (subst (λ (e : tree.Exp g.row.A.Denot). FitsExp (begins_by T) F base e) (ap (expr_kind m) c.in-SuperCall.is ∙ expr_kind-SuperCall _ m c.in-SuperCall.name c.in-SuperCall.args) c.requires.fits) in
    λ κs o. (falls_one (exp_size (expr_of c.args.of.now)) _ _ 3 t (ap (λ (x : List (Expr g.row.A.Denot)). exps_size (exprs_of x)) same) (ap exp_size (ap (expr_kind m) c.in-SuperCall.is ∙ expr_kind-SuperCall _ m c.in-SuperCall.name c.in-SuperCall.args)) c.decreases (omega arith), (o.0, (o.1, (n.0, n.1))))

pub expr-create-requires : goal.expr-create-requires
unfolding exp_size exps_size target_size expr_kind expr_row held_target spot_exp spot_exps
expr-create-requires g t c =
    let T = g.A.Mark.span_from in
    let F = g.A.Mark.fits_at in
    let G = given g.F.Facts.decls g.F.Facts.types c.args.here.now in
    let path = c.args.path.now.steps.items in
    let base = c.args.base in
    let m = c.args.of.now.mark in
    let at = c.span-at.result.from in
    let start : at ≡ (T m base).from = ap (λ (z : Span). z.from) c.span-at.ensures in
    let old = c.args.out.now.items in
    let same = c.deref-in-New.ensures.value in
    λ κs o. (falls_one (exp_size (expr_of c.args.of.now)) _ _ 3 t (ap (λ (x : List (Expr g.row.A.Denot)). exps_size (exprs_of x)) same) (ap exp_size (ap (expr_kind m) c.in-New.is ∙ expr_kind-New _ m c.in-New.field-0 c.in-New.args)) c.decreases (omega arith), (o.0, (o.1, arm.create_fits T F base m at start (type_of c.in-New.field-0.value) c.deref-in-New.result.now c.in-New.args.items same (subst (λ (e : tree.Exp g.row.A.Denot). FitsExp (begins_by T) F base e) (ap (expr_kind m) c.in-New.is ∙ expr_kind-New _ m c.in-New.field-0 c.in-New.args) c.requires.fits))))

pub expr-cast-requires : goal.expr-cast-requires
unfolding exp_size exps_size target_size expr_kind expr_row held_target spot_exp spot_exps
expr-cast-requires g t c =
    let T = g.A.Mark.span_from in
    let F = g.A.Mark.fits_at in
    let G = given g.F.Facts.decls g.F.Facts.types c.args.here.now in
    let path = c.args.path.now.steps.items in
    let base = c.args.base in
    let m = c.args.of.now.mark in
    let at = c.span-at.result.from in
    let start : at ≡ (T m base).from = ap (λ (z : Span). z.from) c.span-at.ensures in
    let old = c.args.out.now.items in
    let same = c.deref-in-Cast.ensures in
    λ κs o. (falls_one (exp_size (expr_of c.args.of.now)) _ _ 2 t (ap (λ (x : Expr g.row.A.Denot). exp_size (expr_of x)) same) (ap exp_size (ap (expr_kind m) c.in-Cast.is)) c.decreases (omega arith), (o.0, (o.1, arm.cast_fits T F base m at start (type_of c.in-Cast.field-0.value) c.deref-in-Cast.result.now c.in-Cast.part.value same (subst (λ (e : tree.Exp g.row.A.Denot). FitsExp (begins_by T) F base e) (ap (expr_kind m) c.in-Cast.is) c.requires.fits))))

pub expr-bump-requires : goal.expr-bump-requires
unfolding exp_size exps_size target_size expr_kind expr_row held_target spot_exp spot_exps
expr-bump-requires g t c =
    let T = g.A.Mark.span_from in
    let F = g.A.Mark.fits_at in
    let G = given g.F.Facts.decls g.F.Facts.types c.args.here.now in
    let path = c.args.path.now.steps.items in
    let base = c.args.base in
    let m = c.args.of.now.mark in
    let at = c.span-at.result.from in
    let start : at ≡ (T m base).from = ap (λ (z : Span). z.from) c.span-at.ensures in
    let old = c.args.out.now.items in
    let same = c.deref-in-Bump.ensures in
    λ κs o. (falls_one (exp_size (expr_of c.args.of.now)) _ _ 2 t (ap (λ (x : Expr g.row.A.Denot). exp_size (expr_of x)) same) (ap exp_size (ap (expr_kind m) c.in-Bump.is)) c.decreases (omega arith), (o.0, (o.1, arm.bump_fits T F base m at start c.in-Bump.field-0 c.deref-in-Bump.result.now c.in-Bump.to.value same (subst (λ (e : tree.Exp g.row.A.Denot). FitsExp (begins_by T) F base e) (ap (expr_kind m) c.in-Bump.is) c.requires.fits))))

pub expr-binary-requires : goal.expr-binary-requires
unfolding exp_size exps_size target_size expr_kind expr_row held_target spot_exp spot_exps
expr-binary-requires g t c =
    let T = g.A.Mark.span_from in
    let F = g.A.Mark.fits_at in
    let G = given g.F.Facts.decls g.F.Facts.types c.args.here.now in
    let path = c.args.path.now.steps.items in
    let base = c.args.base in
    let m = c.args.of.now.mark in
    let at = c.span-at.result.from in
    let start : at ≡ (T m base).from = ap (λ (z : Span). z.from) c.span-at.ensures in
    let old = c.args.out.now.items in
    let first = c.deref-in-Binary.ensures in
    let second = c.deref-in-Binary-2.ensures in
    let n = arm.binary_fits T F base m at start c.in-Binary.op c.deref-in-Binary.result.now c.in-Binary.left.value c.deref-in-Binary-2.result.now c.in-Binary.right.value first second (subst (λ (e : tree.Exp g.row.A.Denot). FitsExp (begins_by T) F base e) (ap (expr_kind m) c.in-Binary.is) c.requires.fits) in
    λ κs o. (falls_two (exp_size (expr_of c.args.of.now)) _ _ _ _ 2 t (ap (λ (x : Expr g.row.A.Denot). exp_size (expr_of x)) first) (ap (λ (x : Expr g.row.A.Denot). exp_size (expr_of x)) second) (ap exp_size (ap (expr_kind m) c.in-Binary.is)) c.decreases (omega arith), (o.0, (o.1, (n.0, n.1))))

pub expr-assign-requires : goal.expr-assign-requires
unfolding exp_size exps_size target_size expr_kind expr_row held_target spot_exp spot_exps
expr-assign-requires g t c =
    let T = g.A.Mark.span_from in
    let F = g.A.Mark.fits_at in
    let G = given g.F.Facts.decls g.F.Facts.types c.args.here.now in
    let path = c.args.path.now.steps.items in
    let base = c.args.base in
    let m = c.args.of.now.mark in
    let at = c.span-at.result.from in
    let start : at ≡ (T m base).from = ap (λ (z : Span). z.from) c.span-at.ensures in
    let old = c.args.out.now.items in
    let first = c.deref-in-Assign.ensures in
    let second = c.deref-in-Assign-2.ensures in
    let n = arm.assign_fits T F base m at start c.deref-in-Assign.result.now c.in-Assign.to.value c.deref-in-Assign-2.result.now c.in-Assign.value.value first second (subst (λ (e : tree.Exp g.row.A.Denot). FitsExp (begins_by T) F base e) (ap (expr_kind m) c.in-Assign.is) c.requires.fits) in
    λ κs o. (falls_two (exp_size (expr_of c.args.of.now)) _ _ _ _ 2 t (ap (λ (x : Expr g.row.A.Denot). exp_size (expr_of x)) first) (ap (λ (x : Expr g.row.A.Denot). exp_size (expr_of x)) second) (ap exp_size (ap (expr_kind m) c.in-Assign.is)) c.decreases (omega arith), (o.0, (o.1, (n.0, n.1))))

pub expr-compound-requires : goal.expr-compound-requires
unfolding exp_size exps_size target_size expr_kind expr_row held_target spot_exp spot_exps
expr-compound-requires g t c =
    let T = g.A.Mark.span_from in
    let F = g.A.Mark.fits_at in
    let G = given g.F.Facts.decls g.F.Facts.types c.args.here.now in
    let path = c.args.path.now.steps.items in
    let base = c.args.base in
    let m = c.args.of.now.mark in
    let at = c.span-at.result.from in
    let start : at ≡ (T m base).from = ap (λ (z : Span). z.from) c.span-at.ensures in
    let old = c.args.out.now.items in
    let first = c.deref-in-Compound.ensures in
    let second = c.deref-in-Compound-2.ensures in
    let n = arm.compound_fits T F base m at start c.in-Compound.op c.deref-in-Compound.result.now c.in-Compound.to.value c.deref-in-Compound-2.result.now c.in-Compound.value.value first second (subst (λ (e : tree.Exp g.row.A.Denot). FitsExp (begins_by T) F base e) (ap (expr_kind m) c.in-Compound.is) c.requires.fits) in
    λ κs o. (falls_two (exp_size (expr_of c.args.of.now)) _ _ _ _ 2 t (ap (λ (x : Expr g.row.A.Denot). exp_size (expr_of x)) first) (ap (λ (x : Expr g.row.A.Denot). exp_size (expr_of x)) second) (ap exp_size (ap (expr_kind m) c.in-Compound.is)) c.decreases (omega arith), (o.0, (o.1, (n.0, n.1))))

pub expr-returns-in-Int : goal.expr-returns-in-Int
unfolding exp_size exps_size target_size expr_kind expr_row held_target spot_exp spot_exps
expr-returns-in-Int g t c =
    let T = g.A.Mark.span_from in
    let F = g.A.Mark.fits_at in
    let G = given g.F.Facts.decls g.F.Facts.types c.args.here.now in
    let path = c.args.path.now.steps.items in
    let base = c.args.base in
    let m = c.args.of.now.mark in
    let at = c.span-at.result.from in
    let start : at ≡ (T m base).from = ap (λ (z : Span). z.from) c.span-at.ensures in
    let old = c.args.out.now.items in
    let new = c.put_nothing.new.out.items in
    on_ok_then c.put_nothing.result (λ h. subst (λ (e : tree.Exp g.row.A.Denot). Walked G (route.exp T path base e) old new) (sym (ap (expr_kind m) c.in-Int.is)) (h)) (c.put_nothing.ensures G)

pub expr-returns-in-Bool : goal.expr-returns-in-Bool
unfolding exp_size exps_size target_size expr_kind expr_row held_target spot_exp spot_exps
expr-returns-in-Bool g t c =
    let T = g.A.Mark.span_from in
    let F = g.A.Mark.fits_at in
    let G = given g.F.Facts.decls g.F.Facts.types c.args.here.now in
    let path = c.args.path.now.steps.items in
    let base = c.args.base in
    let m = c.args.of.now.mark in
    let at = c.span-at.result.from in
    let start : at ≡ (T m base).from = ap (λ (z : Span). z.from) c.span-at.ensures in
    let old = c.args.out.now.items in
    let new = c.put_nothing-in-Bool.new.out.items in
    on_ok_then c.put_nothing-in-Bool.result (λ h. subst (λ (e : tree.Exp g.row.A.Denot). Walked G (route.exp T path base e) old new) (sym (ap (expr_kind m) c.in-Bool.is)) (h)) (c.put_nothing-in-Bool.ensures G)

pub expr-returns-in-Null : goal.expr-returns-in-Null
unfolding exp_size exps_size target_size expr_kind expr_row held_target spot_exp spot_exps
expr-returns-in-Null g t c =
    let T = g.A.Mark.span_from in
    let F = g.A.Mark.fits_at in
    let G = given g.F.Facts.decls g.F.Facts.types c.args.here.now in
    let path = c.args.path.now.steps.items in
    let base = c.args.base in
    let m = c.args.of.now.mark in
    let at = c.span-at.result.from in
    let start : at ≡ (T m base).from = ap (λ (z : Span). z.from) c.span-at.ensures in
    let old = c.args.out.now.items in
    let new = c.put_nothing-in-Null.new.out.items in
    on_ok_then c.put_nothing-in-Null.result (λ h. subst (λ (e : tree.Exp g.row.A.Denot). Walked G (route.exp T path base e) old new) (sym (ap (expr_kind m) c.in-Null.is)) (h)) (c.put_nothing-in-Null.ensures G)

pub expr-returns-in-Text : goal.expr-returns-in-Text
unfolding exp_size exps_size target_size expr_kind expr_row held_target spot_exp spot_exps
expr-returns-in-Text g t c =
    let T = g.A.Mark.span_from in
    let F = g.A.Mark.fits_at in
    let G = given g.F.Facts.decls g.F.Facts.types c.args.here.now in
    let path = c.args.path.now.steps.items in
    let base = c.args.base in
    let m = c.args.of.now.mark in
    let at = c.span-at.result.from in
    let start : at ≡ (T m base).from = ap (λ (z : Span). z.from) c.span-at.ensures in
    let old = c.args.out.now.items in
    let new = c.put_nothing-in-Text.new.out.items in
    on_ok_then c.put_nothing-in-Text.result (λ h. subst (λ (e : tree.Exp g.row.A.Denot). Walked G (route.exp T path base e) old new) (sym (ap (expr_kind m) c.in-Text.is)) (h)) (c.put_nothing-in-Text.ensures G)

pub expr-returns-in-This : goal.expr-returns-in-This
unfolding exp_size exps_size target_size expr_kind expr_row held_target spot_exp spot_exps
expr-returns-in-This g t c =
    let T = g.A.Mark.span_from in
    let F = g.A.Mark.fits_at in
    let G = given g.F.Facts.decls g.F.Facts.types c.args.here.now in
    let path = c.args.path.now.steps.items in
    let base = c.args.base in
    let m = c.args.of.now.mark in
    let at = c.span-at.result.from in
    let start : at ≡ (T m base).from = ap (λ (z : Span). z.from) c.span-at.ensures in
    let old = c.args.out.now.items in
    let new = c.put_nothing-in-This.new.out.items in
    on_ok_then c.put_nothing-in-This.result (λ h. subst (λ (e : tree.Exp g.row.A.Denot). Walked G (route.exp T path base e) old new) (sym (ap (expr_kind m) c.in-This.is)) (h)) (c.put_nothing-in-This.ensures G)

pub expr-returns-in-ClassLit : goal.expr-returns-in-ClassLit
unfolding exp_size exps_size target_size expr_kind expr_row held_target spot_exp spot_exps
expr-returns-in-ClassLit g t c =
    let T = g.A.Mark.span_from in
    let F = g.A.Mark.fits_at in
    let G = given g.F.Facts.decls g.F.Facts.types c.args.here.now in
    let path = c.args.path.now.steps.items in
    let base = c.args.base in
    let m = c.args.of.now.mark in
    let at = c.span-at.result.from in
    let start : at ≡ (T m base).from = ap (λ (z : Span). z.from) c.span-at.ensures in
    let old = c.args.out.now.items in
    let new = c.put_nothing-in-ClassLit.new.out.items in
    on_ok_then c.put_nothing-in-ClassLit.result (λ h. subst (λ (e : tree.Exp g.row.A.Denot). Walked G (route.exp T path base e) old new) (sym (ap (expr_kind m) c.in-ClassLit.is)) (h)) (c.put_nothing-in-ClassLit.ensures G)

pub expr-returns-in-Simple : goal.expr-returns-in-Simple
unfolding exp_size exps_size target_size expr_kind expr_row held_target spot_exp spot_exps
expr-returns-in-Simple g t c =
    let T = g.A.Mark.span_from in
    let F = g.A.Mark.fits_at in
    let G = given g.F.Facts.decls g.F.Facts.types c.args.here.now in
    let path = c.args.path.now.steps.items in
    let base = c.args.base in
    let m = c.args.of.now.mark in
    let at = c.span-at.result.from in
    let start : at ≡ (T m base).from = ap (λ (z : Span). z.from) c.span-at.ensures in
    let old = c.args.out.now.items in
    let new = c.simple.new.out.items in
    on_ok_then c.simple.result (λ h. subst (λ (e : tree.Exp g.row.A.Denot). Walked G (route.exp T path base e) old new) (sym (ap (expr_kind m) c.in-Simple.is)) (arm.name_puts T G path base m at start old new (word_of c.in-Simple.name) h)) (c.simple.ensures)

pub expr-returns-in-SuperField : goal.expr-returns-in-SuperField
unfolding exp_size exps_size target_size expr_kind expr_row held_target spot_exp spot_exps
expr-returns-in-SuperField g t c =
    let T = g.A.Mark.span_from in
    let F = g.A.Mark.fits_at in
    let G = given g.F.Facts.decls g.F.Facts.types c.args.here.now in
    let path = c.args.path.now.steps.items in
    let base = c.args.base in
    let m = c.args.of.now.mark in
    let at = c.span-at.result.from in
    let start : at ≡ (T m base).from = ap (λ (z : Span). z.from) c.span-at.ensures in
    let old = c.args.out.now.items in
    let new = c.on_super.new.out.items in
    on_ok_then c.on_super.result (λ h. subst (λ (e : tree.Exp g.row.A.Denot). Walked G (route.exp T path base e) old new) (sym (ap (expr_kind m) c.in-SuperField.is)) (arm.super_puts T G path base m at start old new (word_of c.in-SuperField.name) h)) (c.on_super.ensures)

pub expr-returns-in-Field : goal.expr-returns-in-Field
unfolding exp_size exps_size target_size expr_kind expr_row held_target spot_exp spot_exps
expr-returns-in-Field g t c =
    let T = g.A.Mark.span_from in
    let F = g.A.Mark.fits_at in
    let G = given g.F.Facts.decls g.F.Facts.types c.args.here.now in
    let path = c.args.path.now.steps.items in
    let base = c.args.base in
    let m = c.args.of.now.mark in
    let at = c.span-at.result.from in
    let start : at ≡ (T m base).from = ap (λ (z : Span). z.from) c.span-at.ensures in
    let old = c.args.out.now.items in
    let new = c.field.new.out.items in
    on_ok_then c.field.result (λ h. subst (λ (e : tree.Exp g.row.A.Denot). Walked G (route.exp T path base e) old new) (sym (ap (expr_kind m) c.in-Field.is)) (arm.field_puts T G path base m at start old new c.deref.result.now c.in-Field.part.value (word_of c.in-Field.name) c.deref.ensures h)) (c.field.ensures)

pub expr-returns-in-Call : goal.expr-returns-in-Call
unfolding exp_size exps_size target_size expr_kind expr_row held_target spot_exp spot_exps
expr-returns-in-Call g t c =
    let T = g.A.Mark.span_from in
    let F = g.A.Mark.fits_at in
    let G = given g.F.Facts.decls g.F.Facts.types c.args.here.now in
    let path = c.args.path.now.steps.items in
    let base = c.args.base in
    let m = c.args.of.now.mark in
    let at = c.span-at.result.from in
    let start : at ≡ (T m base).from = ap (λ (z : Span). z.from) c.span-at.ensures in
    let old = c.args.out.now.items in
    let new = c.call.new.out.items in
    on_ok_then c.call.result (λ h. subst (λ (e : tree.Exp g.row.A.Denot). Walked G (route.exp T path base e) old new) (sym (ap (expr_kind m) c.in-Call.is ∙ expr_kind-Call_to _ m c.in-Call.target c.in-Call.name c.in-Call.args)) (arm.call_puts T G path base m at start old new (target_of c.in-Call.target) (word_of c.in-Call.name) c.deref-in-Call.result.now c.in-Call.args.items c.deref-in-Call.ensures.value h)) (c.call.ensures)

pub expr-returns-in-SuperCall : goal.expr-returns-in-SuperCall
unfolding exp_size exps_size target_size expr_kind expr_row held_target spot_exp spot_exps
expr-returns-in-SuperCall g t c =
    let T = g.A.Mark.span_from in
    let F = g.A.Mark.fits_at in
    let G = given g.F.Facts.decls g.F.Facts.types c.args.here.now in
    let path = c.args.path.now.steps.items in
    let base = c.args.base in
    let m = c.args.of.now.mark in
    let at = c.span-at.result.from in
    let start : at ≡ (T m base).from = ap (λ (z : Span). z.from) c.span-at.ensures in
    let old = c.args.out.now.items in
    let new = c.super_call.new.out.items in
    on_ok_then c.super_call.result (λ h. subst (λ (e : tree.Exp g.row.A.Denot). Walked G (route.exp T path base e) old new) (sym (ap (expr_kind m) c.in-SuperCall.is ∙ expr_kind-SuperCall _ m c.in-SuperCall.name c.in-SuperCall.args)) (arm.super_call_puts T G path base m at start old new (word_of c.in-SuperCall.name) c.deref-in-SuperCall.result.now c.in-SuperCall.args.items c.deref-in-SuperCall.ensures.value h)) (c.super_call.ensures)

pub expr-returns-in-New : goal.expr-returns-in-New
unfolding exp_size exps_size target_size expr_kind expr_row held_target spot_exp spot_exps
expr-returns-in-New g t c =
    let T = g.A.Mark.span_from in
    let F = g.A.Mark.fits_at in
    let G = given g.F.Facts.decls g.F.Facts.types c.args.here.now in
    let path = c.args.path.now.steps.items in
    let base = c.args.base in
    let m = c.args.of.now.mark in
    let at = c.span-at.result.from in
    let start : at ≡ (T m base).from = ap (λ (z : Span). z.from) c.span-at.ensures in
    let old = c.args.out.now.items in
    let new = c.create.new.out.items in
    on_ok_then c.create.result (λ h. subst (λ (e : tree.Exp g.row.A.Denot). Walked G (route.exp T path base e) old new) (sym (ap (expr_kind m) c.in-New.is ∙ expr_kind-New _ m c.in-New.field-0 c.in-New.args)) (arm.create_puts T G path base m at start old new (type_of c.in-New.field-0.value) c.deref-in-New.result.now c.in-New.args.items c.deref-in-New.ensures.value h)) (c.create.ensures)

pub expr-returns-in-Paren : goal.expr-returns-in-Paren
unfolding exp_size exps_size target_size expr_kind expr_row held_target spot_exp spot_exps
expr-returns-in-Paren g t c =
    let T = g.A.Mark.span_from in
    let F = g.A.Mark.fits_at in
    let G = given g.F.Facts.decls g.F.Facts.types c.args.here.now in
    let path = c.args.path.now.steps.items in
    let base = c.args.base in
    let m = c.args.of.now.mark in
    let at = c.span-at.result.from in
    let start : at ≡ (T m base).from = ap (λ (z : Span). z.from) c.span-at.ensures in
    let old = c.args.out.now.items in
    let new = c.operand.new.out.items in
    on_ok_then c.operand.result (λ h. subst (λ (e : tree.Exp g.row.A.Denot). Walked G (route.exp T path base e) old new) (sym (ap (expr_kind m) c.in-Paren.is)) (arm.paren_puts T G path base m at start old new c.deref-in-Paren.result.now c.in-Paren.part.value c.deref-in-Paren.ensures h)) (c.operand.ensures)

pub expr-returns-in-Unary : goal.expr-returns-in-Unary
unfolding exp_size exps_size target_size expr_kind expr_row held_target spot_exp spot_exps
expr-returns-in-Unary g t c =
    let T = g.A.Mark.span_from in
    let F = g.A.Mark.fits_at in
    let G = given g.F.Facts.decls g.F.Facts.types c.args.here.now in
    let path = c.args.path.now.steps.items in
    let base = c.args.base in
    let m = c.args.of.now.mark in
    let at = c.span-at.result.from in
    let start : at ≡ (T m base).from = ap (λ (z : Span). z.from) c.span-at.ensures in
    let old = c.args.out.now.items in
    let new = c.operand-in-Unary.new.out.items in
    on_ok_then c.operand-in-Unary.result (λ h. subst (λ (e : tree.Exp g.row.A.Denot). Walked G (route.exp T path base e) old new) (sym (ap (expr_kind m) c.in-Unary.is)) (arm.unary_puts T G path base m at start old new c.in-Unary.field-0 c.deref-in-Unary.result.now c.in-Unary.part.value c.deref-in-Unary.ensures h)) (c.operand-in-Unary.ensures)

pub expr-returns-in-Cast : goal.expr-returns-in-Cast
unfolding exp_size exps_size target_size expr_kind expr_row held_target spot_exp spot_exps
expr-returns-in-Cast g t c =
    let T = g.A.Mark.span_from in
    let F = g.A.Mark.fits_at in
    let G = given g.F.Facts.decls g.F.Facts.types c.args.here.now in
    let path = c.args.path.now.steps.items in
    let base = c.args.base in
    let m = c.args.of.now.mark in
    let at = c.span-at.result.from in
    let start : at ≡ (T m base).from = ap (λ (z : Span). z.from) c.span-at.ensures in
    let old = c.args.out.now.items in
    let new = c.cast.new.out.items in
    on_ok_then c.cast.result (λ h. subst (λ (e : tree.Exp g.row.A.Denot). Walked G (route.exp T path base e) old new) (sym (ap (expr_kind m) c.in-Cast.is)) (arm.cast_puts T G path base m at start old new (type_of c.in-Cast.field-0.value) c.deref-in-Cast.result.now c.in-Cast.part.value c.deref-in-Cast.ensures h)) (c.cast.ensures)

pub expr-returns-in-Bump : goal.expr-returns-in-Bump
unfolding exp_size exps_size target_size expr_kind expr_row held_target spot_exp spot_exps
expr-returns-in-Bump g t c =
    let T = g.A.Mark.span_from in
    let F = g.A.Mark.fits_at in
    let G = given g.F.Facts.decls g.F.Facts.types c.args.here.now in
    let path = c.args.path.now.steps.items in
    let base = c.args.base in
    let m = c.args.of.now.mark in
    let at = c.span-at.result.from in
    let start : at ≡ (T m base).from = ap (λ (z : Span). z.from) c.span-at.ensures in
    let old = c.args.out.now.items in
    let new = c.bump.new.out.items in
    on_ok_then c.bump.result (λ h. subst (λ (e : tree.Exp g.row.A.Denot). Walked G (route.exp T path base e) old new) (sym (ap (expr_kind m) c.in-Bump.is)) (arm.bump_puts T G path base m at start old new c.in-Bump.field-0 c.deref-in-Bump.result.now c.in-Bump.to.value c.deref-in-Bump.ensures h)) (c.bump.ensures)

pub expr-returns-in-Binary : goal.expr-returns-in-Binary
unfolding exp_size exps_size target_size expr_kind expr_row held_target spot_exp spot_exps
expr-returns-in-Binary g t c =
    let T = g.A.Mark.span_from in
    let F = g.A.Mark.fits_at in
    let G = given g.F.Facts.decls g.F.Facts.types c.args.here.now in
    let path = c.args.path.now.steps.items in
    let base = c.args.base in
    let m = c.args.of.now.mark in
    let at = c.span-at.result.from in
    let start : at ≡ (T m base).from = ap (λ (z : Span). z.from) c.span-at.ensures in
    let old = c.args.out.now.items in
    let new = c.binary.new.out.items in
    on_ok_then c.binary.result (λ h. subst (λ (e : tree.Exp g.row.A.Denot). Walked G (route.exp T path base e) old new) (sym (ap (expr_kind m) c.in-Binary.is)) (arm.binary_puts T G path base m at start old new c.in-Binary.op c.deref-in-Binary.result.now c.in-Binary.left.value c.deref-in-Binary-2.result.now c.in-Binary.right.value c.deref-in-Binary.ensures c.deref-in-Binary-2.ensures h)) (c.binary.ensures)

pub expr-returns-in-Assign : goal.expr-returns-in-Assign
unfolding exp_size exps_size target_size expr_kind expr_row held_target spot_exp spot_exps
expr-returns-in-Assign g t c =
    let T = g.A.Mark.span_from in
    let F = g.A.Mark.fits_at in
    let G = given g.F.Facts.decls g.F.Facts.types c.args.here.now in
    let path = c.args.path.now.steps.items in
    let base = c.args.base in
    let m = c.args.of.now.mark in
    let at = c.span-at.result.from in
    let start : at ≡ (T m base).from = ap (λ (z : Span). z.from) c.span-at.ensures in
    let old = c.args.out.now.items in
    let new = c.assign.new.out.items in
    on_ok_then c.assign.result (λ h. subst (λ (e : tree.Exp g.row.A.Denot). Walked G (route.exp T path base e) old new) (sym (ap (expr_kind m) c.in-Assign.is)) (arm.assign_puts T G path base m at start old new c.deref-in-Assign.result.now c.in-Assign.to.value c.deref-in-Assign-2.result.now c.in-Assign.value.value c.deref-in-Assign.ensures c.deref-in-Assign-2.ensures h)) (c.assign.ensures)

pub expr-returns-in-Compound : goal.expr-returns-in-Compound
unfolding exp_size exps_size target_size expr_kind expr_row held_target spot_exp spot_exps
expr-returns-in-Compound g t c =
    let T = g.A.Mark.span_from in
    let F = g.A.Mark.fits_at in
    let G = given g.F.Facts.decls g.F.Facts.types c.args.here.now in
    let path = c.args.path.now.steps.items in
    let base = c.args.base in
    let m = c.args.of.now.mark in
    let at = c.span-at.result.from in
    let start : at ≡ (T m base).from = ap (λ (z : Span). z.from) c.span-at.ensures in
    let old = c.args.out.now.items in
    let new = c.compound.new.out.items in
    on_ok_then c.compound.result (λ h. subst (λ (e : tree.Exp g.row.A.Denot). Walked G (route.exp T path base e) old new) (sym (ap (expr_kind m) c.in-Compound.is)) (arm.compound_puts T G path base m at start old new c.in-Compound.op c.deref-in-Compound.result.now c.in-Compound.to.value c.deref-in-Compound-2.result.now c.in-Compound.value.value c.deref-in-Compound.ensures c.deref-in-Compound-2.ensures h)) (c.compound.ensures)

pub operand-expr-requires : goal.operand-expr-requires
operand-expr-requires g t c =
    λ κs o. (omega (arith, c.decreases), (o.0, (o.1, c.requires.fits)))

pub operand-returns : goal.operand-returns
operand-returns g t c =
    let T = g.A.Mark.span_from in
    let F = g.A.Mark.fits_at in
    let G = given g.F.Facts.decls g.F.Facts.types c.args.here.now in
    let path = c.args.path.now.steps.items in
    on_ok_then c.expr.result (λ h. subst (λ (q : List ℕ). Walked G (route.exp T q c.args.at (expr_of c.args.part.now)) c.args.out.now.items c.expr.new.out.items) c.in_ok-inner.ensures h) c.expr.ensures

pub left-is_class_name-is_class-requires : goal.left-is_class_name-is_class-requires
left-is_class_name-is_class-requires g t c =
    record { fits = c.requires.fits }

pub left-operand-requires : goal.left-operand-requires
left-operand-requires g t c =
    λ κs o. (omega (arith, c.decreases), (o.0, (o.1, c.requires.fits)))

pub left-returns-then-is_class : goal.left-returns-then-is_class
left-returns-then-is_class g t c =
    let T = g.A.Mark.span_from in
    let F = g.A.Mark.fits_at in
    let G = given g.F.Facts.decls g.F.Facts.types c.args.here.now in
    let path = c.args.path.now.steps.items in
    let old = c.args.out.now.items in
    let at = c.args.at in
    let e = expr_of c.args.part.now in
    let told = λ (o : Others). c.is_class_name-is_class.ensures o (path ++ 0 ∷ []) in
    on_ok_then c.put_nothing.result (λ h. arm.left_passes T G (path ++ 0 ∷ []) at e old c.put_nothing.new.out.items (λ o. sym (told o) ∙ c.if-is_class.true) h) (c.put_nothing.ensures G)

pub left-returns : goal.left-returns
left-returns g t c =
    let T = g.A.Mark.span_from in
    let F = g.A.Mark.fits_at in
    let G = given g.F.Facts.decls g.F.Facts.types c.args.here.now in
    let path = c.args.path.now.steps.items in
    let old = c.args.out.now.items in
    let at = c.args.at in
    let e = expr_of c.args.part.now in
    let told = λ (o : Others). c.is_class_name-is_class.ensures o (path ++ 0 ∷ []) in
    on_ok_then c.operand.result (λ h. arm.left_stays T G (path ++ 0 ∷ []) at e old c.operand.new.out.items (λ o. sym (told o) ∙ c.if-is_class.false) h) c.operand.ensures

pub target_operand-span-from-requires : goal.target_operand-span-from-requires
target_operand-span-from-requires g t c =
    own_fits (begins_by g.A.Mark.span_from) g.A.Mark.fits_at c.args.at c.args.to.now c.requires.fits

pub target_operand-left-requires : goal.target_operand-left-requires
target_operand-left-requires g t c =
    let T = g.A.Mark.span_from in
    let F = g.A.Mark.fits_at in
    let G = given g.F.Facts.decls g.F.Facts.types c.args.here.now in
    let path = c.args.path.now.steps.items in
    let at = c.args.at in
    let e = expr_of c.args.to.now in
    let m = c.args.to.now.mark in
    let from = c.span-from.result.from in
    let start : from ≡ spotted.start T at e = ap (λ (z : Span). z.from) c.span-from.ensures ∙ ap (λ (k : g.row.A.Denot). (T k at).from) (sym (expr_mark_is c.args.to.now)) in
    let inner = c.in_ok-inner.inner.steps.items in
    let old = c.args.out.now.items in
    let is = (sym c.aim_of.ensures ∙ ap aim_view c.in-Dotted.is) in
    λ κs o. (arm.falls_aim e (expr_of c.in-Dotted.part.now) _ t is c.decreases, (o.0, (o.1, arm.dotted_fits T F at e from start (expr_of c.in-Dotted.part.now) _ is c.requires.fits)))

pub target_operand-returns-in-Dotted : goal.target_operand-returns-in-Dotted
target_operand-returns-in-Dotted g t c =
    let T = g.A.Mark.span_from in
    let F = g.A.Mark.fits_at in
    let G = given g.F.Facts.decls g.F.Facts.types c.args.here.now in
    let path = c.args.path.now.steps.items in
    let at = c.args.at in
    let e = expr_of c.args.to.now in
    let m = c.args.to.now.mark in
    let from = c.span-from.result.from in
    let start : from ≡ spotted.start T at e = ap (λ (z : Span). z.from) c.span-from.ensures ∙ ap (λ (k : g.row.A.Denot). (T k at).from) (sym (expr_mark_is c.args.to.now)) in
    let inner = c.in_ok-inner.inner.steps.items in
    let old = c.args.out.now.items in
    on_ok_then c.left.result (λ h. arm.dotted_operand T G path at e from start (expr_of c.in-Dotted.part.now) _ inner old c.left.new.out.items c.in_ok-inner.ensures (sym c.aim_of.ensures ∙ ap aim_view c.in-Dotted.is) h) c.left.ensures

pub target_operand-returns-in-Name : goal.target_operand-returns-in-Name
target_operand-returns-in-Name g t c =
    let T = g.A.Mark.span_from in
    let F = g.A.Mark.fits_at in
    let G = given g.F.Facts.decls g.F.Facts.types c.args.here.now in
    let path = c.args.path.now.steps.items in
    let at = c.args.at in
    let e = expr_of c.args.to.now in
    let m = c.args.to.now.mark in
    let from = c.span-from.result.from in
    let start : from ≡ spotted.start T at e = ap (λ (z : Span). z.from) c.span-from.ensures ∙ ap (λ (k : g.row.A.Denot). (T k at).from) (sym (expr_mark_is c.args.to.now)) in
    let inner = c.in_ok-inner.inner.steps.items in
    let old = c.args.out.now.items in
    on_ok_then c.put_nothing.result (λ h. arm.no_operand T G (path ++ 0 ∷ []) at e old c.put_nothing.new.out.items _ (sym c.aim_of.ensures ∙ ap aim_view c.in-Name.is) (λ o. refl) h) (c.put_nothing.ensures G)

pub target_operand-returns-in-OnSuper : goal.target_operand-returns-in-OnSuper
target_operand-returns-in-OnSuper g t c =
    let T = g.A.Mark.span_from in
    let F = g.A.Mark.fits_at in
    let G = given g.F.Facts.decls g.F.Facts.types c.args.here.now in
    let path = c.args.path.now.steps.items in
    let at = c.args.at in
    let e = expr_of c.args.to.now in
    let m = c.args.to.now.mark in
    let from = c.span-from.result.from in
    let start : from ≡ spotted.start T at e = ap (λ (z : Span). z.from) c.span-from.ensures ∙ ap (λ (k : g.row.A.Denot). (T k at).from) (sym (expr_mark_is c.args.to.now)) in
    let inner = c.in_ok-inner.inner.steps.items in
    let old = c.args.out.now.items in
    on_ok_then c.put_nothing-in-OnSuper.result (λ h. arm.no_operand T G (path ++ 0 ∷ []) at e old c.put_nothing-in-OnSuper.new.out.items _ (sym c.aim_of.ensures ∙ ap aim_view c.in-OnSuper.is) (λ o. refl) h) (c.put_nothing-in-OnSuper.ensures G)

pub target_operand-returns : goal.target_operand-returns
target_operand-returns g t c =
    let T = g.A.Mark.span_from in
    let F = g.A.Mark.fits_at in
    let G = given g.F.Facts.decls g.F.Facts.types c.args.here.now in
    let path = c.args.path.now.steps.items in
    let at = c.args.at in
    let e = expr_of c.args.to.now in
    let m = c.args.to.now.mark in
    let from = c.span-from.result.from in
    let start : from ≡ spotted.start T at e = ap (λ (z : Span). z.from) c.span-from.ensures ∙ ap (λ (k : g.row.A.Denot). (T k at).from) (sym (expr_mark_is c.args.to.now)) in
    let inner = c.in_ok-inner.inner.steps.items in
    let old = c.args.out.now.items in
    on_ok_then c.put_nothing-in-Other.result (λ h. arm.no_operand T G (path ++ 0 ∷ []) at e old c.put_nothing-in-Other.new.out.items _ (sym c.aim_of.ensures ∙ ap aim_view c.in-Other.is) (λ o. refl) h) (c.put_nothing-in-Other.ensures G)

pub field-left-requires : goal.field-left-requires
field-left-requires g t c =
    λ κs o. (omega (arith, c.decreases), (o.0, (o.1, c.requires.fits)))

pub field-returns : goal.field-returns
field-returns g t c =
    let T = g.A.Mark.span_from in
    let F = g.A.Mark.fits_at in
    let G = given g.F.Facts.decls g.F.Facts.types c.args.here.now in
    let path = c.args.path.now.steps.items in
    let old = c.args.out.now.items in
    let at = c.args.at in
    let word = c.span-word.result.from in
    let there : word ≡ (T c.args.name.now.mark c.args.at).from = ap (λ (z : Span). z.from) c.span-word.ensures in
    let e = expr_of c.args.part.now in
    on_ok_then c.put_row.result (λ h. subst (λ (n : ℕ). Walked G (route.field T path at e n) old c.put_row.new.out.items) there
    (row_goes G (route.left T (path ++ 0 ∷ []) at e) (route.checked_load T (path ++ 0 ∷ []) at e word) old c.left.new.out.items c.checked_load.new.out.items c.put_row.new.out.items c.in_ok-left.ensures (c.in_ok-checked_load.ensures (path ++ 0 ∷ [])) h)) (c.put_row.ensures G.member)

pub receiver-left-requires : goal.receiver-left-requires
receiver-left-requires g t c =
    let T = g.A.Mark.span_from in
    let F = g.A.Mark.fits_at in
    let G = given g.F.Facts.decls g.F.Facts.types c.args.here.now in
    let path = c.args.path.now.steps.items in
    let old = c.args.out.now.items in
    let at = c.args.at in
    let same = c.deref.ensures in
    λ κs o. (falls_target c.args.target.now c.in-Some.part c.deref.result.now t c.in-Some.is same c.decreases, (o.0, (o.1, arm.target_fits T F at c.args.target.now c.in-Some.part c.deref.result.now c.in-Some.is same c.requires.fits)))

pub receiver-returns-in-None : goal.receiver-returns-in-None
receiver-returns-in-None g t c =
    let T = g.A.Mark.span_from in
    let F = g.A.Mark.fits_at in
    let G = given g.F.Facts.decls g.F.Facts.types c.args.here.now in
    let path = c.args.path.now.steps.items in
    let old = c.args.out.now.items in
    let at = c.args.at in
    on_ok_then c.put_nothing.result (λ h. subst (λ (o : Option (Box (Expr g.row.A.Denot) Global)). Walked G (route.receiver T path at (target_of o)) old c.put_nothing.new.out.items) (sym c.in-None.is) h) (c.put_nothing.ensures G)

pub receiver-returns-in-Some : goal.receiver-returns-in-Some
receiver-returns-in-Some g t c =
    let T = g.A.Mark.span_from in
    let F = g.A.Mark.fits_at in
    let G = given g.F.Facts.decls g.F.Facts.types c.args.here.now in
    let path = c.args.path.now.steps.items in
    let old = c.args.out.now.items in
    let at = c.args.at in
    on_ok_then c.left.result (λ h. subst (λ (o : Option (Box (Expr g.row.A.Denot) Global)). Walked G (route.receiver T path at (target_of o)) old c.left.new.out.items) (sym c.in-Some.is) (subst (λ (z : Expr g.row.A.Denot). Walked G (route.left T (path ++ 0 ∷ []) at (expr_of z)) old c.left.new.out.items) c.deref.ensures h)) c.left.ensures

pub call-receiver-requires : goal.call-receiver-requires
call-receiver-requires g t c =
    λ κs o. (omega (arith, c.decreases), (o.0, (o.1, c.requires.fits)))

pub call-exprs-requires : goal.call-exprs-requires
call-exprs-requires g t c =
    λ κs o. (omega (arith, c.decreases), (o.0, (o.1, c.requires.fits_args)))

pub call-returns : goal.call-returns
call-returns g t c =
    let T = g.A.Mark.span_from in
    let F = g.A.Mark.fits_at in
    let G = given g.F.Facts.decls g.F.Facts.types c.args.here.now in
    let path = c.args.path.now.steps.items in
    let old = c.args.out.now.items in
    let at = c.args.at in
    let word = c.span-word.result.from in
    let there : word ≡ (T c.args.name.now.mark c.args.at).from = ap (λ (z : Span). z.from) c.span-word.ensures in
    let to = target_of c.args.target.now in
    let es = exprs_of c.args.args.now in
    let args = subst (λ (n : ℕ). Walked G (route.exps T path n at es) c.receiver.new.out.items c.exprs.new.out.items) c.first_argument.ensures c.in_ok-exprs.ensures in
    let inside = row_goes G (route.exps T path (route.first_argument to) at es) (route.called T path at to word) c.receiver.new.out.items c.exprs.new.out.items c.called.new.out.items c.put_row.new.out.items args (c.in_ok-called.ensures path) (c.in_ok-put_row.ensures G.member) in
    on_ok_then c.put_row-2.result (λ h. subst (λ (n : ℕ). Walked G (route.call T path at to n es) old c.put_row-2.new.out.items) there
    (row_goes G (route.receiver T path at to) (route.seq (route.exps T path (route.first_argument to) at es) (route.called T path at to word)) old c.receiver.new.out.items c.put_row.new.out.items c.put_row-2.new.out.items c.in_ok-receiver.ensures inside h)) (c.put_row-2.ensures G.member)

pub super_call-exprs-requires : goal.super_call-exprs-requires
super_call-exprs-requires g t c =
    λ κs o. (omega (arith, c.decreases), (o.0, (o.1, c.requires.fits_args)))

pub super_call-returns : goal.super_call-returns
super_call-returns g t c =
    let T = g.A.Mark.span_from in
    let F = g.A.Mark.fits_at in
    let G = given g.F.Facts.decls g.F.Facts.types c.args.here.now in
    let path = c.args.path.now.steps.items in
    let old = c.args.out.now.items in
    let at = c.args.at in
    let word = c.span-word.result.from in
    let there : word ≡ (T c.args.name.now.mark c.args.at).from = ap (λ (z : Span). z.from) c.span-word.ensures in
    let es = exprs_of c.args.args.now in
    on_ok_then c.put_row.result (λ h. subst (λ (n : ℕ). Walked G (route.super_call T path at n es) old c.put_row.new.out.items) there
    (row_goes G (route.exps T path 1 at es) (route.done sites.calls word) old c.exprs.new.out.items c.put_site.new.out.items c.put_row.new.out.items c.in_ok-exprs.ensures (c.in_ok-put_site.ensures G) h)) (c.put_row.ensures G.member)

pub create-exprs-requires : goal.create-exprs-requires
create-exprs-requires g t c =
    λ κs o. (omega (arith, c.decreases), (o.0, (o.1, c.requires.fits_args)))

pub create-returns : goal.create-returns
create-returns g t c =
    let T = g.A.Mark.span_from in
    let F = g.A.Mark.fits_at in
    let G = given g.F.Facts.decls g.F.Facts.types c.args.here.now in
    let path = c.args.path.now.steps.items in
    let old = c.args.out.now.items in
    let at = c.args.at in
    let es = exprs_of c.args.args.now in
    let inside = row_goes G (route.exps T path 1 at es) (route.done sites.calls at) c.put_site.new.out.items c.exprs.new.out.items c.put_site-2.new.out.items c.put_row.new.out.items c.in_ok-exprs.ensures (c.in_ok-put_site-2.ensures G) (c.in_ok-put_row.ensures G.member) in
    on_ok_then c.put_row-2.result (λ h. row_goes G (route.done sites.creates at) (route.seq (route.exps T path 1 at es) (route.done sites.calls at)) old c.put_site.new.out.items c.put_row.new.out.items c.put_row-2.new.out.items (c.in_ok-put_site.ensures G) inside h) (c.put_row-2.ensures G.member)

pub cast-operand-requires : goal.cast-operand-requires
cast-operand-requires g t c =
    λ κs o. (omega (arith, c.decreases), (o.0, (o.1, c.requires.fits)))

pub cast-returns : goal.cast-returns
cast-returns g t c =
    let T = g.A.Mark.span_from in
    let F = g.A.Mark.fits_at in
    let G = given g.F.Facts.decls g.F.Facts.types c.args.here.now in
    let path = c.args.path.now.steps.items in
    let old = c.args.out.now.items in
    let at = c.args.at in
    on_ok_then c.put_row.result (λ h. row_goes G (route.exp T (path ++ 1 ∷ []) at (expr_of c.args.part.now)) (route.cast_check path at) old c.operand.new.out.items c.cast_check.new.out.items c.put_row.new.out.items c.in_ok-operand.ensures c.in_ok-cast_check.ensures h) (c.put_row.ensures G.member)

pub bump-target_operand-requires : goal.bump-target_operand-requires
bump-target_operand-requires g t c =
    λ κs o. (omega (arith, c.decreases), (o.0, (o.1, c.requires.fits)))

pub bump-returns : goal.bump-returns
bump-returns g t c =
    let T = g.A.Mark.span_from in
    let F = g.A.Mark.fits_at in
    let G = given g.F.Facts.decls g.F.Facts.types c.args.here.now in
    let path = c.args.path.now.steps.items in
    let old = c.args.out.now.items in
    let at = c.args.at in
    let t0 = path ++ 0 ∷ [] in
    let to = expr_of c.args.to.now in
    let inside = row_goes G (route.target_load T t0 at to) (route.target_store T t0 at to) c.target_operand.new.out.items c.target_load.new.out.items c.target_store.new.out.items c.put_row.new.out.items (c.in_ok-target_load.ensures t0) (c.in_ok-target_store.ensures t0) (c.in_ok-put_row.ensures G.member) in
    on_ok_then c.put_row-2.result (λ h. row_goes G (route.target_operand T t0 at to) (route.seq (route.target_load T t0 at to) (route.target_store T t0 at to)) old c.target_operand.new.out.items c.put_row.new.out.items c.put_row-2.new.out.items c.in_ok-target_operand.ensures inside h) (c.put_row-2.ensures G.member)

pub binary-operand-requires : goal.binary-operand-requires
binary-operand-requires g t c =
    λ κs o. (omega (arith, c.decreases), (o.0, (o.1, c.requires.fits)))

pub binary-operand-requires-2 : goal.binary-operand-requires-2
binary-operand-requires-2 g t c =
    λ κs o. (omega (arith, c.decreases), (o.0, (o.1, c.requires.fits_right)))

pub binary-returns : goal.binary-returns
binary-returns g t c =
    let T = g.A.Mark.span_from in
    let F = g.A.Mark.fits_at in
    let G = given g.F.Facts.decls g.F.Facts.types c.args.here.now in
    let path = c.args.path.now.steps.items in
    let old = c.args.out.now.items in
    let at = c.args.at in
    c.operands_end.ensures G (path ++ 1 ∷ []) (route.exp T (path ++ 0 ∷ []) at (expr_of c.args.left.now)) (route.exp T (path ++ 1 ∷ []) at (expr_of c.args.right.now)) old c.operand.new.out.items c.in_ok-operand.ensures c.in_ok-operand-2.ensures

pub assign-target_operand-requires : goal.assign-target_operand-requires
assign-target_operand-requires g t c =
    λ κs o. (omega (arith, c.decreases), (o.0, (o.1, c.requires.fits)))

pub assign-operand-requires : goal.assign-operand-requires
assign-operand-requires g t c =
    λ κs o. (omega (arith, c.decreases), (o.0, (o.1, c.requires.fits_value)))

pub compound-target_operand-requires : goal.compound-target_operand-requires
compound-target_operand-requires g t c =
    λ κs o. (omega (arith, c.decreases), (o.0, (o.1, c.requires.fits)))

pub compound-operand-requires : goal.compound-operand-requires
compound-operand-requires g t c =
    λ κs o. (omega (arith, c.decreases), (o.0, (o.1, c.requires.fits_value)))

pub assign-returns : goal.assign-returns
assign-returns g t c =
    let T = g.A.Mark.span_from in
    let F = g.A.Mark.fits_at in
    let G = given g.F.Facts.decls g.F.Facts.types c.args.here.now in
    let path = c.args.path.now.steps.items in
    let old = c.args.out.now.items in
    let at = c.args.at in
    let t0 = path ++ 0 ∷ [] in
    let to = expr_of c.args.to.now in
    let v = expr_of c.args.value.now in
    let O = route.target_operand T t0 at to in
    let E = route.exp T (path ++ 1 ∷ []) at v in
    let K = route.target_check T t0 at to in
    let S = route.target_store T t0 at to in
    let last = row_goes G K S c.operand.new.out.items c.target_check.new.out.items c.target_store.new.out.items c.put_row.new.out.items (c.in_ok-target_check.ensures t0) (c.in_ok-target_store.ensures t0) (c.in_ok-put_row.ensures G.member) in
    let more = row_goes G E (route.seq K S) c.target_operand.new.out.items c.operand.new.out.items c.put_row.new.out.items c.put_row-2.new.out.items c.in_ok-operand.ensures last (c.in_ok-put_row-2.ensures G.member) in
    on_ok_then c.put_row-3.result (λ h. row_goes G O (route.seq E (route.seq K S)) old c.target_operand.new.out.items c.put_row-2.new.out.items c.put_row-3.new.out.items c.in_ok-target_operand.ensures more h) (c.put_row-3.ensures G.member)

pub compound-returns : goal.compound-returns
compound-returns g t c =
    let T = g.A.Mark.span_from in
    let F = g.A.Mark.fits_at in
    let G = given g.F.Facts.decls g.F.Facts.types c.args.here.now in
    let path = c.args.path.now.steps.items in
    let old = c.args.out.now.items in
    let at = c.args.at in
    let t0 = path ++ 0 ∷ [] in
    let to = expr_of c.args.to.now in
    let v = expr_of c.args.value.now in
    let O = route.target_operand T t0 at to in
    let L = route.target_load T t0 at to in
    let E = route.exp T (path ++ 1 ∷ []) at v in
    let D = route.divisor_check T c.args.op (path ++ 1 ∷ []) at v in
    let S = route.target_store T t0 at to in
    let last = row_goes G D S c.operand.new.out.items c.divisor_check.new.out.items c.target_store.new.out.items c.put_row.new.out.items (c.in_ok-divisor_check.ensures G (path ++ 1 ∷ [])) (c.in_ok-target_store.ensures t0) (c.in_ok-put_row.ensures G.member) in
    let more = row_goes G E (route.seq D S) c.target_load.new.out.items c.operand.new.out.items c.put_row.new.out.items c.put_row-2.new.out.items c.in_ok-operand.ensures last (c.in_ok-put_row-2.ensures G.member) in
    let most = row_goes G L (route.seq E (route.seq D S)) c.target_operand.new.out.items c.target_load.new.out.items c.put_row-2.new.out.items c.put_row-3.new.out.items (c.in_ok-target_load.ensures t0) more (c.in_ok-put_row-3.ensures G.member) in
    on_ok_then c.put_row-4.result (λ h. row_goes G O (route.seq L (route.seq E (route.seq D S))) old c.target_operand.new.out.items c.put_row-3.new.out.items c.put_row-4.new.out.items c.in_ok-target_operand.ensures most h) (c.put_row-4.ensures G.member)

pub exprs-operand-requires : goal.exprs-operand-requires
exprs-operand-requires g t c =
    let T = g.A.Mark.span_from in
    let F = g.A.Mark.fits_at in
    let G = given g.F.Facts.decls g.F.Facts.types c.args.here.now in
    let path = c.args.path.now.steps.items in
    let i = c.loop-part.part-index in
    let x = c.part-item.result in
    let ps = c.args.parts.now in
    λ κs o. (falls_item ps i x t c.loop-part-test.true c.part-item.is c.decreases, (o.0, (o.1, (arm.item_fits T F G path c.args.first c.args.at ps i x c.loop-part-test.true c.part-item.is c.loop-part.invariant.fits).0)))

pub exprs-loop-part-init : goal.exprs-loop-part-init
exprs-loop-part-init g t c =
    let T = g.A.Mark.span_from in
    let F = g.A.Mark.fits_at in
    let G = given g.F.Facts.decls g.F.Facts.types c.args.here.now in
    let path = c.args.path.now.steps.items in
    record { fits = c.requires.fits; left = arm.left_all T F G path c.args.first c.args.at c.args.parts.now c.args.out.now.items }

pub exprs-loop-part-preserved : goal.exprs-loop-part-preserved
exprs-loop-part-preserved g t c =
    let T = g.A.Mark.span_from in
    let F = g.A.Mark.fits_at in
    let G = given g.F.Facts.decls g.F.Facts.types c.args.here.now in
    let path = c.args.path.now.steps.items in
    let i = c.loop-part.part-index in
    let x = c.part-item.result in
    let ps = c.args.parts.now in
    record {
      fits = (arm.item_fits T F G path c.args.first c.args.at ps i x c.loop-part-test.true c.part-item.is c.loop-part.invariant.fits).1;
      left = arm.left_more T F G path c.args.first c.args.at ps c.args.out.now.items c.loop-part.out.items c.operand.new.out.items c.loop-part.step c.in_ok-step.step i x c.loop-part-test.true c.part-item.is c.in_ok-step.ensures c.loop-part.invariant.left c.in_ok-operand.ensures;
    }

pub exprs-returns : goal.exprs-returns
exprs-returns g t c =
    let T = g.A.Mark.span_from in
    let F = g.A.Mark.fits_at in
    let G = given g.F.Facts.decls g.F.Facts.types c.args.here.now in
    let path = c.args.path.now.steps.items in
    let i = c.loop-part.part-index in
    on_ok_then c.put_rows.result (λ h. arm.left_none T F G path c.args.first c.args.at c.args.parts.now c.args.out.now.items c.loop-part.out.items c.put_nothing.new.out.items c.put_rows.new.out.items c.loop-part.step i _ c.loop-part-test.false c.loop-part.auto.part-index-end refl c.loop-part.invariant.left (c.in_ok-put_nothing.ensures G) h) (c.put_rows.ensures G.member)
