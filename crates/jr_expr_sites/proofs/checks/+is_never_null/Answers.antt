use Rattle.std.proofs.Common.{◌≡◌, ℕ, true, false, [], ◌∷◌, ◌++◌, refl, sym, ap, subst, ◌∙◌}
use Rattle.jr_text.specs.declared.spans.Span.{Span}
use Rattle.jr_ast.specs.Tree as tree
use Rattle.jr_ast.specs.View.{expr_of, word_of}
use Rattle.jr_bind_expr.specs.Fits.{FitsExp}
use Rattle.jr_bind_expr.proofs.Steps.{own_fits}
use Rattle.jr_expr_sites.specs.KnownFacts.{meaning_at}
use Rattle.jr_expr_sites.specs.StepView.{given}
use Rattle.jr_expr_sites.specs.Routes.{begins_by, spots}
use Rattle.std.proofs.Common.{arith}
use Rattle.jr_ast.specs.declared.exprs.Expr.{Expr}
use Rattle.jr_ast.specs.View.{expr_kind, expr_row, held_target}
use Rattle.jr_ast.proofs.Rows.{expr_kind-Call_to, expr_kind-SuperCall, expr_kind-New}
use Rattle.jr_ast.proofs.Sizes.{exp_size, exps_size, target_size}
use Rattle.jr_cover.specs.Spots.{spot_exp, spot_exps}
use Rattle.jr_expr_sites.specs.KnownFacts.{is_never_null, is_kept}
use Rattle.jr_expr_sites.proofs.Arms as arm
use Rattle.jr_expr_sites.proofs.checks.+is_never_null.Goals as goal

pub span-at-requires : goal.span-at-requires
span-at-requires g t c = own_fits (begins_by g.A.Mark.span_from) g.A.Mark.fits_at c.args.base c.args.of.now c.requires.fits

pub is_never_null-requires : goal.is_never_null-requires
unfolding exp_size exps_size target_size expr_kind expr_row held_target
is_never_null-requires g t c =
    let T = g.A.Mark.span_from in
    let G = given g.F.Facts.decls g.F.Facts.types c.args.here.now in
    let base = c.args.base in
    let m = c.args.of.now.mark in
    let at = c.span-at.result.from in
    let start : at ≡ (T m base).from = ap (λ (z : Span). z.from) c.span-at.ensures in
    let same = c.deref.ensures in
    let is = ap (expr_kind m) c.in-Paren.is in
    let fits = arm.paren_fits T g.A.Mark.fits_at base m at start c.deref.result.now c.in-Paren.part.value same (subst (λ (e : tree.Exp g.row.A.Denot). FitsExp (begins_by T) g.A.Mark.fits_at base e) is c.requires.fits) in
    let less = ap (λ (x : Expr g.row.A.Denot). exp_size (expr_of x)) same in
    let whole = ap exp_size is in
    λ κs o. (omega (arith, less, whole, c.decreases), (o.0, (o.1, fits)))

pub span-requires : goal.span-requires
unfolding expr_kind expr_row held_target
span-requires g t c =
    let T = g.A.Mark.span_from in
    let G = given g.F.Facts.decls g.F.Facts.types c.args.here.now in
    let base = c.args.base in
    let m = c.args.of.now.mark in
    let at = c.span-at.result.from in
    let start : at ≡ (T m base).from = ap (λ (z : Span). z.from) c.span-at.ensures in
    arm.name_fits T g.A.Mark.fits_at base m at start (word_of c.in-Simple.name) (subst (λ (e : tree.Exp g.row.A.Denot). FitsExp (begins_by T) g.A.Mark.fits_at base e) (ap (expr_kind m) c.in-Simple.is) c.requires.fits)

pub returns-in-Paren : goal.returns-in-Paren
unfolding expr_kind expr_row held_target spot_exp spot_exps
returns-in-Paren g t c path =
    let T = g.A.Mark.span_from in
    let G = given g.F.Facts.decls g.F.Facts.types c.args.here.now in
    let base = c.args.base in
    let m = c.args.of.now.mark in
    let at = c.span-at.result.from in
    let start : at ≡ (T m base).from = ap (λ (z : Span). z.from) c.span-at.ensures in
    subst (λ (e : tree.Exp g.row.A.Denot). c.is_never_null.result ≡ is_never_null G (spots T path base e)) (sym (ap (expr_kind m) c.in-Paren.is))
    (c.is_never_null.ensures (path ++ 0 ∷ []) ∙ (λ i. is_never_null G (spots T (path ++ 0 ∷ []) (start i) (expr_of (c.deref.ensures i)))))

pub returns-in-Simple : goal.returns-in-Simple
unfolding expr_kind expr_row held_target spot_exp spot_exps
returns-in-Simple g t c path =
    let T = g.A.Mark.span_from in
    let G = given g.F.Facts.decls g.F.Facts.types c.args.here.now in
    let base = c.args.base in
    let m = c.args.of.now.mark in
    let at = c.span-at.result.from in
    let start : at ≡ (T m base).from = ap (λ (z : Span). z.from) c.span-at.ensures in
    subst (λ (e : tree.Exp g.row.A.Denot). c.is_kept_local.result ≡ is_never_null G (spots T path base e)) (sym (ap (expr_kind m) c.in-Simple.is))
    (c.is_kept_local.ensures ∙ ap (λ (k : ℕ). is_kept G.never_null (meaning_at G k)) (ap (λ (z : Span). z.from) c.span.ensures ∙ ap (λ (k : ℕ). (T c.in-Simple.name.mark k).from) start))

pub returns-in-Text : goal.returns-in-Text
unfolding expr_kind expr_row held_target spot_exp spot_exps
returns-in-Text g t c path =
    let T = g.A.Mark.span_from in
    let G = given g.F.Facts.decls g.F.Facts.types c.args.here.now in
    let base = c.args.base in
    let m = c.args.of.now.mark in
    let at = c.span-at.result.from in
    let start : at ≡ (T m base).from = ap (λ (z : Span). z.from) c.span-at.ensures in
    subst (λ (e : tree.Exp g.row.A.Denot). true ≡ is_never_null G (spots T path base e)) (sym (ap (expr_kind m) c.in-Text.is)) refl

pub returns-in-This : goal.returns-in-This
unfolding expr_kind expr_row held_target spot_exp spot_exps
returns-in-This g t c path =
    let T = g.A.Mark.span_from in
    let G = given g.F.Facts.decls g.F.Facts.types c.args.here.now in
    let base = c.args.base in
    let m = c.args.of.now.mark in
    let at = c.span-at.result.from in
    let start : at ≡ (T m base).from = ap (λ (z : Span). z.from) c.span-at.ensures in
    subst (λ (e : tree.Exp g.row.A.Denot). true ≡ is_never_null G (spots T path base e)) (sym (ap (expr_kind m) c.in-This.is)) refl

pub returns-in-ClassLit : goal.returns-in-ClassLit
unfolding expr_kind expr_row held_target spot_exp spot_exps
returns-in-ClassLit g t c path =
    let T = g.A.Mark.span_from in
    let G = given g.F.Facts.decls g.F.Facts.types c.args.here.now in
    let base = c.args.base in
    let m = c.args.of.now.mark in
    let at = c.span-at.result.from in
    let start : at ≡ (T m base).from = ap (λ (z : Span). z.from) c.span-at.ensures in
    subst (λ (e : tree.Exp g.row.A.Denot). true ≡ is_never_null G (spots T path base e)) (sym (ap (expr_kind m) c.in-ClassLit.is)) refl

pub returns-in-New : goal.returns-in-New
unfolding expr_kind expr_row held_target spot_exp spot_exps
returns-in-New g t c path =
    let T = g.A.Mark.span_from in
    let G = given g.F.Facts.decls g.F.Facts.types c.args.here.now in
    let base = c.args.base in
    let m = c.args.of.now.mark in
    let at = c.span-at.result.from in
    let start : at ≡ (T m base).from = ap (λ (z : Span). z.from) c.span-at.ensures in
    subst (λ (e : tree.Exp g.row.A.Denot). true ≡ is_never_null G (spots T path base e)) (sym (ap (expr_kind m) c.in-New.is ∙ expr_kind-New _ m c.in-New.field-0 c.in-New.field-1)) refl

pub returns-in-Int : goal.returns-in-Int
unfolding expr_kind expr_row held_target spot_exp spot_exps
returns-in-Int g t c path =
    let T = g.A.Mark.span_from in
    let G = given g.F.Facts.decls g.F.Facts.types c.args.here.now in
    let base = c.args.base in
    let m = c.args.of.now.mark in
    let at = c.span-at.result.from in
    let start : at ≡ (T m base).from = ap (λ (z : Span). z.from) c.span-at.ensures in
    subst (λ (e : tree.Exp g.row.A.Denot). false ≡ is_never_null G (spots T path base e)) (sym (ap (expr_kind m) c.in-Int.is)) refl

pub returns-in-Bool : goal.returns-in-Bool
unfolding expr_kind expr_row held_target spot_exp spot_exps
returns-in-Bool g t c path =
    let T = g.A.Mark.span_from in
    let G = given g.F.Facts.decls g.F.Facts.types c.args.here.now in
    let base = c.args.base in
    let m = c.args.of.now.mark in
    let at = c.span-at.result.from in
    let start : at ≡ (T m base).from = ap (λ (z : Span). z.from) c.span-at.ensures in
    subst (λ (e : tree.Exp g.row.A.Denot). false ≡ is_never_null G (spots T path base e)) (sym (ap (expr_kind m) c.in-Bool.is)) refl

pub returns-in-Null : goal.returns-in-Null
unfolding expr_kind expr_row held_target spot_exp spot_exps
returns-in-Null g t c path =
    let T = g.A.Mark.span_from in
    let G = given g.F.Facts.decls g.F.Facts.types c.args.here.now in
    let base = c.args.base in
    let m = c.args.of.now.mark in
    let at = c.span-at.result.from in
    let start : at ≡ (T m base).from = ap (λ (z : Span). z.from) c.span-at.ensures in
    subst (λ (e : tree.Exp g.row.A.Denot). false ≡ is_never_null G (spots T path base e)) (sym (ap (expr_kind m) c.in-Null.is)) refl

pub returns-in-Field : goal.returns-in-Field
unfolding expr_kind expr_row held_target spot_exp spot_exps
returns-in-Field g t c path =
    let T = g.A.Mark.span_from in
    let G = given g.F.Facts.decls g.F.Facts.types c.args.here.now in
    let base = c.args.base in
    let m = c.args.of.now.mark in
    let at = c.span-at.result.from in
    let start : at ≡ (T m base).from = ap (λ (z : Span). z.from) c.span-at.ensures in
    subst (λ (e : tree.Exp g.row.A.Denot). false ≡ is_never_null G (spots T path base e)) (sym (ap (expr_kind m) c.in-Field.is)) refl

pub returns-in-SuperField : goal.returns-in-SuperField
unfolding expr_kind expr_row held_target spot_exp spot_exps
returns-in-SuperField g t c path =
    let T = g.A.Mark.span_from in
    let G = given g.F.Facts.decls g.F.Facts.types c.args.here.now in
    let base = c.args.base in
    let m = c.args.of.now.mark in
    let at = c.span-at.result.from in
    let start : at ≡ (T m base).from = ap (λ (z : Span). z.from) c.span-at.ensures in
    subst (λ (e : tree.Exp g.row.A.Denot). false ≡ is_never_null G (spots T path base e)) (sym (ap (expr_kind m) c.in-SuperField.is)) refl

pub returns-in-Call : goal.returns-in-Call
unfolding expr_kind expr_row held_target spot_exp spot_exps
returns-in-Call g t c path =
    let T = g.A.Mark.span_from in
    let G = given g.F.Facts.decls g.F.Facts.types c.args.here.now in
    let base = c.args.base in
    let m = c.args.of.now.mark in
    let at = c.span-at.result.from in
    let start : at ≡ (T m base).from = ap (λ (z : Span). z.from) c.span-at.ensures in
    subst (λ (e : tree.Exp g.row.A.Denot). false ≡ is_never_null G (spots T path base e)) (sym (ap (expr_kind m) c.in-Call.is ∙ expr_kind-Call_to _ m c.in-Call.field-0 c.in-Call.field-1 c.in-Call.field-2)) (arm.no_call G T path base m _ _ _)

pub returns-in-SuperCall : goal.returns-in-SuperCall
unfolding expr_kind expr_row held_target spot_exp spot_exps
returns-in-SuperCall g t c path =
    let T = g.A.Mark.span_from in
    let G = given g.F.Facts.decls g.F.Facts.types c.args.here.now in
    let base = c.args.base in
    let m = c.args.of.now.mark in
    let at = c.span-at.result.from in
    let start : at ≡ (T m base).from = ap (λ (z : Span). z.from) c.span-at.ensures in
    subst (λ (e : tree.Exp g.row.A.Denot). false ≡ is_never_null G (spots T path base e)) (sym (ap (expr_kind m) c.in-SuperCall.is ∙ expr_kind-SuperCall _ m c.in-SuperCall.field-0 c.in-SuperCall.field-1)) refl

pub returns-in-Cast : goal.returns-in-Cast
unfolding expr_kind expr_row held_target spot_exp spot_exps
returns-in-Cast g t c path =
    let T = g.A.Mark.span_from in
    let G = given g.F.Facts.decls g.F.Facts.types c.args.here.now in
    let base = c.args.base in
    let m = c.args.of.now.mark in
    let at = c.span-at.result.from in
    let start : at ≡ (T m base).from = ap (λ (z : Span). z.from) c.span-at.ensures in
    subst (λ (e : tree.Exp g.row.A.Denot). false ≡ is_never_null G (spots T path base e)) (sym (ap (expr_kind m) c.in-Cast.is)) refl

pub returns-in-Unary : goal.returns-in-Unary
unfolding expr_kind expr_row held_target spot_exp spot_exps
returns-in-Unary g t c path =
    let T = g.A.Mark.span_from in
    let G = given g.F.Facts.decls g.F.Facts.types c.args.here.now in
    let base = c.args.base in
    let m = c.args.of.now.mark in
    let at = c.span-at.result.from in
    let start : at ≡ (T m base).from = ap (λ (z : Span). z.from) c.span-at.ensures in
    subst (λ (e : tree.Exp g.row.A.Denot). false ≡ is_never_null G (spots T path base e)) (sym (ap (expr_kind m) c.in-Unary.is)) refl

pub returns-in-Bump : goal.returns-in-Bump
unfolding expr_kind expr_row held_target spot_exp spot_exps
returns-in-Bump g t c path =
    let T = g.A.Mark.span_from in
    let G = given g.F.Facts.decls g.F.Facts.types c.args.here.now in
    let base = c.args.base in
    let m = c.args.of.now.mark in
    let at = c.span-at.result.from in
    let start : at ≡ (T m base).from = ap (λ (z : Span). z.from) c.span-at.ensures in
    subst (λ (e : tree.Exp g.row.A.Denot). false ≡ is_never_null G (spots T path base e)) (sym (ap (expr_kind m) c.in-Bump.is)) refl

pub returns-in-Binary : goal.returns-in-Binary
unfolding expr_kind expr_row held_target spot_exp spot_exps
returns-in-Binary g t c path =
    let T = g.A.Mark.span_from in
    let G = given g.F.Facts.decls g.F.Facts.types c.args.here.now in
    let base = c.args.base in
    let m = c.args.of.now.mark in
    let at = c.span-at.result.from in
    let start : at ≡ (T m base).from = ap (λ (z : Span). z.from) c.span-at.ensures in
    subst (λ (e : tree.Exp g.row.A.Denot). false ≡ is_never_null G (spots T path base e)) (sym (ap (expr_kind m) c.in-Binary.is)) refl

pub returns-in-Assign : goal.returns-in-Assign
unfolding expr_kind expr_row held_target spot_exp spot_exps
returns-in-Assign g t c path =
    let T = g.A.Mark.span_from in
    let G = given g.F.Facts.decls g.F.Facts.types c.args.here.now in
    let base = c.args.base in
    let m = c.args.of.now.mark in
    let at = c.span-at.result.from in
    let start : at ≡ (T m base).from = ap (λ (z : Span). z.from) c.span-at.ensures in
    subst (λ (e : tree.Exp g.row.A.Denot). false ≡ is_never_null G (spots T path base e)) (sym (ap (expr_kind m) c.in-Assign.is)) refl

pub returns-in-Compound : goal.returns-in-Compound
unfolding expr_kind expr_row held_target spot_exp spot_exps
returns-in-Compound g t c path =
    let T = g.A.Mark.span_from in
    let G = given g.F.Facts.decls g.F.Facts.types c.args.here.now in
    let base = c.args.base in
    let m = c.args.of.now.mark in
    let at = c.span-at.result.from in
    let start : at ≡ (T m base).from = ap (λ (z : Span). z.from) c.span-at.ensures in
    subst (λ (e : tree.Exp g.row.A.Denot). false ≡ is_never_null G (spots T path base e)) (sym (ap (expr_kind m) c.in-Compound.is)) refl
