use Rattle.std.proofs.Common.{◌≡◌, ℕ, pred, ◌+◌, [], ◌∷◌, ◌++◌, ap, sym, subst, ◌∙◌}
use Rattle.jr_text.specs.declared.spans.Span.{Span}
use Rattle.jr_ast.specs.Tree as tree
use Rattle.std.proofs.Common.{false}
use Rattle.jr_ast.specs.Marks.{exp_mark}
use Rattle.jr_ast.specs.View.{expr_of, exprs_of}
use Rattle.jr_ast.proofs.Rows.{expr_mark_is}
use Rattle.jr_bind_expr.specs.Fits.{FitsExp, FitsExps, FitsTarget}
use Rattle.jr_bind_expr.proofs.Steps.{own_fits}
use Rattle.jr_cover.specs.Spots.{spot_exps}
use Rattle.jr_cover.specs.Ways.{size}
use Rattle.jr_expr_sites.specs.StepView.{given}
use Rattle.jr_expr_sites.specs.KnownFacts.{Others, known_of}
use Rattle.jr_expr_sites.specs.Routes.{begins_by, ends_by, spots}
use Rattle.jr_expr_sites.specs.Routes as route
use Rattle.jr_expr_sites.proofs.Walking.{on_ok_then}
use Rattle.jr_piece_sites.specs.Fronts.{behind_first, exps_front, exp_front}
use Rattle.jr_piece_sites.specs.Parts as parts
use Rattle.jr_piece_sites.specs.Parts.{Parts, parts_of}
use Rattle.jr_piece_sites.specs.PartsView.{parts_view, between_of}
use Rattle.jr_piece_sites.proofs.Counting as counting
use Rattle.jr_piece_sites.proofs.ExprKinds as kind
use Rattle.jr_piece_sites.proofs.fronts.expr_front.Goals as goal

pub span-at-requires : goal.span-at-requires
span-at-requires g c = own_fits (begins_by g.A.Mark.span_from) g.A.Mark.fits_at c.args.base c.args.of.now c.requires.fits

pub returns-in-Leaf : goal.returns-in-Leaf
returns-in-Leaf g c =
    let T = g.A.Mark.span_from in
    let G = given g.F.Facts.decls g.F.Facts.types c.args.here.now in
    let path = c.args.path.now.steps.items in
    let old = c.args.out.now.items in
    let base = c.args.base in
    let e = expr_of c.args.of.now in
    let at = c.span-at.result.from in
    let start : at ≡ begins_by T (exp_mark e) base = ap (λ (z : Span). z.from) c.span-at.ensures ∙ ap (λ (k : g.row.A.Denot). begins_by T k base) (sym (expr_mark_is c.args.of.now)) in
    let is = sym c.parts_of.ensures ∙ ap parts_view c.in-Leaf.is in
    let whole = λ (o : Others). exp_front (known_of G o) (parts_of (spots T path base e)) c.args.number in
    counting.grows_as G (λ o. 0) whole old old (λ o. sym (kind.front_spots T G o path base e c.args.number ∙ (λ i. kind.front_by T G o path base (sym start i) c.args.number (is i)))) (counting.stays G old)

pub returns-in-Named : goal.returns-in-Named
returns-in-Named g c =
    let T = g.A.Mark.span_from in
    let G = given g.F.Facts.decls g.F.Facts.types c.args.here.now in
    let path = c.args.path.now.steps.items in
    let old = c.args.out.now.items in
    let base = c.args.base in
    let e = expr_of c.args.of.now in
    let at = c.span-at.result.from in
    let start : at ≡ begins_by T (exp_mark e) base = ap (λ (z : Span). z.from) c.span-at.ensures ∙ ap (λ (k : g.row.A.Denot). begins_by T k base) (sym (expr_mark_is c.args.of.now)) in
    let is = sym c.parts_of.ensures ∙ ap parts_view c.in-Named.is in
    let whole = λ (o : Others). exp_front (known_of G o) (parts_of (spots T path base e)) c.args.number in
    counting.grows_as G (λ o. 0) whole old old (λ o. sym (kind.front_spots T G o path base e c.args.number ∙ (λ i. kind.front_by T G o path base (sym start i) c.args.number (is i)))) (counting.stays G old)

pub returns-in-Dotted : goal.returns-in-Dotted
returns-in-Dotted g c =
    let T = g.A.Mark.span_from in
    let G = given g.F.Facts.decls g.F.Facts.types c.args.here.now in
    let path = c.args.path.now.steps.items in
    let old = c.args.out.now.items in
    let base = c.args.base in
    let e = expr_of c.args.of.now in
    let at = c.span-at.result.from in
    let start : at ≡ begins_by T (exp_mark e) base = ap (λ (z : Span). z.from) c.span-at.ensures ∙ ap (λ (k : g.row.A.Denot). begins_by T k base) (sym (expr_mark_is c.args.of.now)) in
    let is = sym c.parts_of.ensures ∙ ap parts_view c.in-Dotted.is in
    let whole = λ (o : Others). exp_front (known_of G o) (parts_of (spots T path base e)) c.args.number in
    counting.grows_as G (λ o. 0) whole old old (λ o. sym (kind.front_spots T G o path base e c.args.number ∙ (λ i. kind.front_by T G o path base (sym start i) c.args.number (is i)))) (counting.stays G old)

pub returns-in-One : goal.returns-in-One
returns-in-One g c =
    let T = g.A.Mark.span_from in
    let G = given g.F.Facts.decls g.F.Facts.types c.args.here.now in
    let path = c.args.path.now.steps.items in
    let old = c.args.out.now.items in
    let base = c.args.base in
    let e = expr_of c.args.of.now in
    let at = c.span-at.result.from in
    let start : at ≡ begins_by T (exp_mark e) base = ap (λ (z : Span). z.from) c.span-at.ensures ∙ ap (λ (k : g.row.A.Denot). begins_by T k base) (sym (expr_mark_is c.args.of.now)) in
    let is = sym c.parts_of.ensures ∙ ap parts_view c.in-One.is in
    let whole = λ (o : Others). exp_front (known_of G o) (parts_of (spots T path base e)) c.args.number in
    counting.grows_as G (λ o. 0) whole old old (λ o. sym (kind.front_spots T G o path base e c.args.number ∙ (λ i. kind.front_by T G o path base (sym start i) c.args.number (is i)))) (counting.stays G old)

pub put_two_front-requires : goal.put_two_front-requires
put_two_front-requires g c =
    let T = g.A.Mark.span_from in
    let F = g.A.Mark.fits_at in
    let base = c.args.base in
    let e = expr_of c.args.of.now in
    let at = c.span-at.result.from in
    let start : at ≡ begins_by T (exp_mark e) base = ap (λ (z : Span). z.from) c.span-at.ensures ∙ ap (λ (k : g.row.A.Denot). begins_by T k base) (sym (expr_mark_is c.args.of.now)) in
    let is = sym c.parts_of.ensures ∙ ap parts_view c.in-Two.is in
    record { fits = subst (λ (k : ℕ). kind.FitsParts T F k (parts.two (between_of c.in-Two.between) (expr_of c.in-Two.first.now) (expr_of c.in-Two.field-2.now))) (sym start) (subst (λ (p : Parts g.row.A.Denot). kind.FitsParts T F (begins_by T (exp_mark e) base) p) is (kind.parts_fit T F base e c.requires.fits)) }

pub returns-in-Two : goal.returns-in-Two
returns-in-Two g c =
    let T = g.A.Mark.span_from in
    let G = given g.F.Facts.decls g.F.Facts.types c.args.here.now in
    let path = c.args.path.now.steps.items in
    let old = c.args.out.now.items in
    let base = c.args.base in
    let e = expr_of c.args.of.now in
    let at = c.span-at.result.from in
    let start : at ≡ begins_by T (exp_mark e) base = ap (λ (z : Span). z.from) c.span-at.ensures ∙ ap (λ (k : g.row.A.Denot). begins_by T k base) (sym (expr_mark_is c.args.of.now)) in
    let is = sym c.parts_of.ensures ∙ ap parts_view c.in-Two.is in
    let whole = λ (o : Others). exp_front (known_of G o) (parts_of (spots T path base e)) c.args.number in
    let new = c.put_two_front.new.out.items in
    on_ok_then c.put_two_front.result (λ h. counting.grows_as G (λ o. kind.front_by T G o path base at c.args.number (parts.two (between_of c.in-Two.between) (expr_of c.in-Two.first.now) (expr_of c.in-Two.field-2.now))) whole old new (λ o. sym (kind.front_spots T G o path base e c.args.number ∙ (λ i. kind.front_by T G o path base (sym start i) c.args.number (is i)))) h) c.put_two_front.ensures

pub put_row_front-requires : goal.put_row_front-requires
put_row_front-requires g c =
    let T = g.A.Mark.span_from in
    let F = g.A.Mark.fits_at in
    let base = c.args.base in
    let e = expr_of c.args.of.now in
    let at = c.span-at.result.from in
    let start : at ≡ begins_by T (exp_mark e) base = ap (λ (z : Span). z.from) c.span-at.ensures ∙ ap (λ (k : g.row.A.Denot). begins_by T k base) (sym (expr_mark_is c.args.of.now)) in
    let is = sym c.parts_of.ensures ∙ ap parts_view c.in-Row.is in
    record { fits = (subst (λ (k : ℕ). kind.FitsParts T F k (parts.row c.in-Row.is_created tree.no_target (exprs_of c.in-Row.args.now))) (sym start) (subst (λ (p : Parts g.row.A.Denot). kind.FitsParts T F (begins_by T (exp_mark e) base) p) is (kind.parts_fit T F base e c.requires.fits))).1 }

pub returns-in-Row : goal.returns-in-Row
returns-in-Row g c =
    let T = g.A.Mark.span_from in
    let G = given g.F.Facts.decls g.F.Facts.types c.args.here.now in
    let path = c.args.path.now.steps.items in
    let old = c.args.out.now.items in
    let base = c.args.base in
    let e = expr_of c.args.of.now in
    let at = c.span-at.result.from in
    let start : at ≡ begins_by T (exp_mark e) base = ap (λ (z : Span). z.from) c.span-at.ensures ∙ ap (λ (k : g.row.A.Denot). begins_by T k base) (sym (expr_mark_is c.args.of.now)) in
    let is = sym c.parts_of.ensures ∙ ap parts_view c.in-Row.is in
    let whole = λ (o : Others). exp_front (known_of G o) (parts_of (spots T path base e)) c.args.number in
    let new = c.put_row_front.new.out.items in
    on_ok_then c.put_row_front.result (λ h. counting.grows_as G (λ o. kind.front_by T G o path base at c.args.number (parts.row c.in-Row.is_created tree.no_target (exprs_of c.in-Row.args.now))) whole old new (λ o. sym (kind.front_spots T G o path base e c.args.number ∙ (λ i. kind.front_by T G o path base (sym start i) c.args.number (is i)))) h) c.put_row_front.ensures

pub put_on_front-requires : goal.put_on_front-requires
unfolding FitsExp FitsTarget FitsExps
put_on_front-requires g c =
    let T = g.A.Mark.span_from in
    let F = g.A.Mark.fits_at in
    let base = c.args.base in
    let e = expr_of c.args.of.now in
    let at = c.span-at.result.from in
    let start : at ≡ begins_by T (exp_mark e) base = ap (λ (z : Span). z.from) c.span-at.ensures ∙ ap (λ (k : g.row.A.Denot). begins_by T k base) (sym (expr_mark_is c.args.of.now)) in
    let is = sym c.parts_of.ensures ∙ ap parts_view c.in-On.is in
    let f = subst (λ (k : ℕ). kind.FitsParts T F k (parts.row false (tree.on (expr_of c.in-On.target.now)) (exprs_of c.in-On.args.now))) (sym start) (subst (λ (p : Parts g.row.A.Denot). kind.FitsParts T F (begins_by T (exp_mark e) base) p) is (kind.parts_fit T F base e c.requires.fits)) in
    record { fits = f.1; fits_target = f.0 }

pub returns-in-On : goal.returns-in-On
returns-in-On g c =
    let T = g.A.Mark.span_from in
    let G = given g.F.Facts.decls g.F.Facts.types c.args.here.now in
    let path = c.args.path.now.steps.items in
    let old = c.args.out.now.items in
    let base = c.args.base in
    let e = expr_of c.args.of.now in
    let at = c.span-at.result.from in
    let start : at ≡ begins_by T (exp_mark e) base = ap (λ (z : Span). z.from) c.span-at.ensures ∙ ap (λ (k : g.row.A.Denot). begins_by T k base) (sym (expr_mark_is c.args.of.now)) in
    let is = sym c.parts_of.ensures ∙ ap parts_view c.in-On.is in
    let whole = λ (o : Others). exp_front (known_of G o) (parts_of (spots T path base e)) c.args.number in
    let new = c.put_on_front.new.out.items in
    let n = λ (o : Others). size (route.left T (path ++ 0 ∷ []) at (expr_of c.in-On.target.now) G o) in
    let m = λ (o : Others). exps_front (known_of G o) (spot_exps (begins_by T) (ends_by T) (exprs_of c.in-On.args.now) at path 2) (pred (pred c.args.number)) in
    on_ok_then c.put_on_front.result (λ h. counting.grows_as G (λ o. behind_first c.args.number (n o + m o)) whole old new (λ o. ap (behind_first c.args.number) (counting.none_made (n o) (m o)) ∙ sym (kind.front_spots T G o path base e c.args.number ∙ (λ i. kind.front_by T G o path base (sym start i) c.args.number (is i)))) h) c.put_on_front.ensures
