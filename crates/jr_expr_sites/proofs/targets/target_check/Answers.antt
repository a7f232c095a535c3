use Rattle.std.proofs.Common.{◌≡◌, ℕ, [], ◌∷◌, ◌++◌, sym, ap, ◌∙◌}
use Rattle.jr_text.specs.declared.spans.Span.{Span}
use Rattle.jr_ast.specs.Marks.{exp_mark}
use Rattle.jr_ast.specs.View.{expr_of, word_of}
use Rattle.jr_ast.proofs.Rows.{expr_mark_is}
use Rattle.jr_bind_expr.proofs.Steps.{own_fits}
use Rattle.jr_expr_sites.specs.Aims.{aim_view}
use Rattle.jr_expr_sites.specs.StepView.{given}
use Rattle.jr_expr_sites.specs.Routes.{Walked, begins_by, spots}
use Rattle.jr_expr_sites.specs.Routes as route
use Rattle.jr_expr_sites.proofs.Walking.{on_ok_then, walked_as}
use Rattle.jr_expr_sites.proofs.Spotted as spotted
use Rattle.jr_expr_sites.proofs.targets.target_check.Goals as goal

pub span-at-requires : goal.span-at-requires
span-at-requires g c = own_fits (begins_by g.A.Mark.span_from) g.A.Mark.fits_at c.args.base c.args.of.now c.requires.fits

pub span-requires : goal.span-requires
span-requires g c =
    let G = given g.F.Facts.decls g.F.Facts.types c.args.here.now in
    let T = g.A.Mark.span_from in
    let F = g.A.Mark.fits_at in
    let base = c.args.base in
    let m = c.args.of.now.mark in
    let e = expr_of c.args.of.now in
    let at = c.span-at.result.from in
    let start : at ≡ spotted.start T base e = ap (λ (z : Span). z.from) c.span-at.ensures ∙ ap (λ (k : g.row.A.Denot). (T k base).from) (sym (expr_mark_is c.args.of.now)) in
    spotted.dotted_word_fits T F base e at start _ _ (sym c.aim_of.ensures ∙ ap aim_view c.in-Dotted.is) c.requires.fits

pub field_check-requires : goal.field_check-requires
field_check-requires g c =
    let G = given g.F.Facts.decls g.F.Facts.types c.args.here.now in
    let T = g.A.Mark.span_from in
    let F = g.A.Mark.fits_at in
    let base = c.args.base in
    let m = c.args.of.now.mark in
    let e = expr_of c.args.of.now in
    let at = c.span-at.result.from in
    let start : at ≡ spotted.start T base e = ap (λ (z : Span). z.from) c.span-at.ensures ∙ ap (λ (k : g.row.A.Denot). (T k base).from) (sym (expr_mark_is c.args.of.now)) in
    record { fits = spotted.dotted_part_fits T F base e at start _ _ (sym c.aim_of.ensures ∙ ap aim_view c.in-Dotted.is) c.requires.fits }

pub returns-in-Dotted : goal.returns-in-Dotted
returns-in-Dotted g c path =
    let G = given g.F.Facts.decls g.F.Facts.types c.args.here.now in
    let T = g.A.Mark.span_from in
    let F = g.A.Mark.fits_at in
    let base = c.args.base in
    let m = c.args.of.now.mark in
    let e = expr_of c.args.of.now in
    let at = c.span-at.result.from in
    let start : at ≡ spotted.start T base e = ap (λ (z : Span). z.from) c.span-at.ensures ∙ ap (λ (k : g.row.A.Denot). (T k base).from) (sym (expr_mark_is c.args.of.now)) in
    let word : c.span.result.from ≡ spotted.word_at T base (exp_mark e) (word_of c.in-Dotted.word.now) = ap (λ (z : Span). z.from) c.span.ensures ∙ ap (λ (k : ℕ). (T c.in-Dotted.word.now.mark k).from) start in
    on_ok_then c.field_check.result (λ h. walked_as G (route.field_check T (path ++ 0 ∷ []) at (expr_of c.in-Dotted.part.now) c.span.result.from) (route.target_check T path base e) c.args.out.now.items c.field_check.new.out.items (λ o. (λ j. route.field_check T (path ++ 0 ∷ []) (start j) (expr_of c.in-Dotted.part.now) (word j) G o) ∙ ap (spotted.check_by T G o path base (exp_mark e)) (sym (sym c.aim_of.ensures ∙ ap aim_view c.in-Dotted.is)) ∙ sym (spotted.check_spots T G o path base e)) h) (c.field_check.ensures (path ++ 0 ∷ []))

pub returns-in-Name : goal.returns-in-Name
returns-in-Name g c path =
    let G = given g.F.Facts.decls g.F.Facts.types c.args.here.now in
    let T = g.A.Mark.span_from in
    let F = g.A.Mark.fits_at in
    let base = c.args.base in
    let m = c.args.of.now.mark in
    let e = expr_of c.args.of.now in
    let at = c.span-at.result.from in
    let start : at ≡ spotted.start T base e = ap (λ (z : Span). z.from) c.span-at.ensures ∙ ap (λ (k : g.row.A.Denot). (T k base).from) (sym (expr_mark_is c.args.of.now)) in
    on_ok_then c.put_nothing.result (λ h. walked_as G route.nothing (route.target_check T path base e) c.args.out.now.items c.put_nothing.new.out.items (λ o. ap (spotted.check_by T G o path base (exp_mark e)) (sym (sym c.aim_of.ensures ∙ ap aim_view c.in-Name.is)) ∙ sym (spotted.check_spots T G o path base e)) h) (c.put_nothing.ensures G)

pub returns-in-OnSuper : goal.returns-in-OnSuper
returns-in-OnSuper g c path =
    let G = given g.F.Facts.decls g.F.Facts.types c.args.here.now in
    let T = g.A.Mark.span_from in
    let F = g.A.Mark.fits_at in
    let base = c.args.base in
    let m = c.args.of.now.mark in
    let e = expr_of c.args.of.now in
    let at = c.span-at.result.from in
    let start : at ≡ spotted.start T base e = ap (λ (z : Span). z.from) c.span-at.ensures ∙ ap (λ (k : g.row.A.Denot). (T k base).from) (sym (expr_mark_is c.args.of.now)) in
    on_ok_then c.put_nothing-in-OnSuper.result (λ h. walked_as G route.nothing (route.target_check T path base e) c.args.out.now.items c.put_nothing-in-OnSuper.new.out.items (λ o. ap (spotted.check_by T G o path base (exp_mark e)) (sym (sym c.aim_of.ensures ∙ ap aim_view c.in-OnSuper.is)) ∙ sym (spotted.check_spots T G o path base e)) h) (c.put_nothing-in-OnSuper.ensures G)

pub returns-in-Other : goal.returns-in-Other
returns-in-Other g c path =
    let G = given g.F.Facts.decls g.F.Facts.types c.args.here.now in
    let T = g.A.Mark.span_from in
    let F = g.A.Mark.fits_at in
    let base = c.args.base in
    let m = c.args.of.now.mark in
    let e = expr_of c.args.of.now in
    let at = c.span-at.result.from in
    let start : at ≡ spotted.start T base e = ap (λ (z : Span). z.from) c.span-at.ensures ∙ ap (λ (k : g.row.A.Denot). (T k base).from) (sym (expr_mark_is c.args.of.now)) in
    on_ok_then c.put_nothing-in-Other.result (λ h. walked_as G route.nothing (route.target_check T path base e) c.args.out.now.items c.put_nothing-in-Other.new.out.items (λ o. ap (spotted.check_by T G o path base (exp_mark e)) (sym (sym c.aim_of.ensures ∙ ap aim_view c.in-Other.is)) ∙ sym (spotted.check_spots T G o path base e)) h) (c.put_nothing-in-Other.ensures G)
