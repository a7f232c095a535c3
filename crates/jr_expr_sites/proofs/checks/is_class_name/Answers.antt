use Rattle.std.proofs.Common.{◌≡◌, ℕ, sym, ap, ◌∙◌}
use Rattle.jr_text.specs.declared.spans.Span.{Span}
use Rattle.jr_ast.specs.Marks.{exp_mark}
use Rattle.jr_ast.specs.View.{expr_of}
use Rattle.jr_ast.proofs.Rows.{expr_mark_is}
use Rattle.jr_bind_expr.proofs.Steps.{own_fits}
use Rattle.jr_expr_sites.specs.Aims.{aim_view}
use Rattle.jr_expr_sites.specs.Meanings as pure
use Rattle.jr_expr_sites.specs.KnownFacts.{meaning_at}
use Rattle.jr_expr_sites.specs.StepView.{given}
use Rattle.jr_expr_sites.specs.Routes.{begins_by}
use Rattle.jr_expr_sites.proofs.Spotted as spotted
use Rattle.jr_expr_sites.proofs.checks.is_class_name.Goals as goal

pub span-at-requires : goal.span-at-requires
span-at-requires g c = own_fits (begins_by g.A.Mark.span_from) g.A.Mark.fits_at c.args.base c.args.of.now c.requires.fits

pub span-requires : goal.span-requires
span-requires g c =
    let G = given g.F.Facts.decls g.F.Facts.types c.args.here.now in
    let T = g.A.Mark.span_from in
    let F = g.A.Mark.fits_at in
    let base = c.args.base in
    let m = c.args.of.now.mark in
    let e = expr_of c.args.of.now in
    let at = c.span-at.result.from in
    let start : at ≡ spotted.start T base e = ap (λ (z : Span). z.from) c.span-at.ensures ∙ ap (λ (k : g.row.A.Denot). (T k base).from) (sym (expr_mark_is c.args.of.now)) in
    spotted.named_fits T F base e at start _ (sym c.aim_of.ensures ∙ ap aim_view c.in-Name.is) c.requires.fits

pub returns-in-Name : goal.returns-in-Name
returns-in-Name g c o path =
    let G = given g.F.Facts.decls g.F.Facts.types c.args.here.now in
    let T = g.A.Mark.span_from in
    let F = g.A.Mark.fits_at in
    let base = c.args.base in
    let m = c.args.of.now.mark in
    let e = expr_of c.args.of.now in
    let at = c.span-at.result.from in
    let start : at ≡ spotted.start T base e = ap (λ (z : Span). z.from) c.span-at.ensures ∙ ap (λ (k : g.row.A.Denot). (T k base).from) (sym (expr_mark_is c.args.of.now)) in
    let cls = (sym c.aim_of.ensures ∙ ap aim_view c.in-Name.is) in
    c.is_class.ensures ∙ ap (λ (k : ℕ). pure.is_class (meaning_at G k)) (ap (λ (z : Span). z.from) c.span.ensures ∙ ap (λ (k : ℕ). (T c.in-Name.word.now.mark k).from) start)
    ∙ ap (spotted.class_by T G o path base (exp_mark e)) (sym (sym c.aim_of.ensures ∙ ap aim_view c.in-Name.is)) ∙ sym (spotted.class_spots T G o path base e)

pub span-requires-in-Dotted : goal.span-requires-in-Dotted
span-requires-in-Dotted g c =
    let G = given g.F.Facts.decls g.F.Facts.types c.args.here.now in
    let T = g.A.Mark.span_from in
    let F = g.A.Mark.fits_at in
    let base = c.args.base in
    let m = c.args.of.now.mark in
    let e = expr_of c.args.of.now in
    let at = c.span-at.result.from in
    let start : at ≡ spotted.start T base e = ap (λ (z : Span). z.from) c.span-at.ensures ∙ ap (λ (k : g.row.A.Denot). (T k base).from) (sym (expr_mark_is c.args.of.now)) in
    spotted.dotted_word_fits T F base e at start _ _ (sym c.aim_of.ensures ∙ ap aim_view c.in-Dotted.is) c.requires.fits

pub returns-in-Dotted : goal.returns-in-Dotted
returns-in-Dotted g c o path =
    let G = given g.F.Facts.decls g.F.Facts.types c.args.here.now in
    let T = g.A.Mark.span_from in
    let F = g.A.Mark.fits_at in
    let base = c.args.base in
    let m = c.args.of.now.mark in
    let e = expr_of c.args.of.now in
    let at = c.span-at.result.from in
    let start : at ≡ spotted.start T base e = ap (λ (z : Span). z.from) c.span-at.ensures ∙ ap (λ (k : g.row.A.Denot). (T k base).from) (sym (expr_mark_is c.args.of.now)) in
    let cls = (sym c.aim_of.ensures ∙ ap aim_view c.in-Dotted.is) in
    c.is_class-in-Dotted.ensures ∙ ap (λ (k : ℕ). pure.is_class (meaning_at G k)) (ap (λ (z : Span). z.from) c.span-in-Dotted.ensures ∙ ap (λ (k : ℕ). (T c.in-Dotted.word.now.mark k).from) start)
    ∙ ap (spotted.class_by T G o path base (exp_mark e)) (sym (sym c.aim_of.ensures ∙ ap aim_view c.in-Dotted.is)) ∙ sym (spotted.class_spots T G o path base e)

pub returns-in-OnSuper : goal.returns-in-OnSuper
returns-in-OnSuper g c o path =
    let G = given g.F.Facts.decls g.F.Facts.types c.args.here.now in
    let T = g.A.Mark.span_from in
    let F = g.A.Mark.fits_at in
    let base = c.args.base in
    let m = c.args.of.now.mark in
    let e = expr_of c.args.of.now in
    let at = c.span-at.result.from in
    let start : at ≡ spotted.start T base e = ap (λ (z : Span). z.from) c.span-at.ensures ∙ ap (λ (k : g.row.A.Denot). (T k base).from) (sym (expr_mark_is c.args.of.now)) in
    ap (spotted.class_by T G o path base (exp_mark e)) (sym (sym c.aim_of.ensures ∙ ap aim_view c.in-OnSuper.is)) ∙ sym (spotted.class_spots T G o path base e)

pub returns-in-Other : goal.returns-in-Other
returns-in-Other g c o path =
    let G = given g.F.Facts.decls g.F.Facts.types c.args.here.now in
    let T = g.A.Mark.span_from in
    let F = g.A.Mark.fits_at in
    let base = c.args.base in
    let m = c.args.of.now.mark in
    let e = expr_of c.args.of.now in
    let at = c.span-at.result.from in
    let start : at ≡ spotted.start T base e = ap (λ (z : Span). z.from) c.span-at.ensures ∙ ap (λ (k : g.row.A.Denot). (T k base).from) (sym (expr_mark_is c.args.of.now)) in
    ap (spotted.class_by T G o path base (exp_mark e)) (sym (sym c.aim_of.ensures ∙ ap aim_view c.in-Other.is)) ∙ sym (spotted.class_spots T G o path base e)
