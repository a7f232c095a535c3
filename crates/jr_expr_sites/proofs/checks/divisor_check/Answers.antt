use Rattle.std.proofs.Common.{◌≡◌, ℕ, Bool, ◌||◌, not, sym, ap, ◌∙◌}
use Rattle.jr_text.specs.declared.spans.Span.{Span}
use Rattle.jr_ast.specs.View.{expr_of}
use Rattle.jr_ast.proofs.Rows.{expr_mark_is}
use Rattle.jr_bind_expr.proofs.Steps.{own_fits}
use Rattle.jr_cover.specs.Sites as sites
use Rattle.jr_expr_sites.specs.KnownFacts.{place}
use Rattle.jr_expr_sites.specs.Routes.{Walked, begins_by, spots}
use Rattle.jr_expr_sites.specs.Routes as route
use Rattle.jr_expr_sites.proofs.Walking.{on_ok_then, walked_as}
use Rattle.jr_expr_sites.proofs.Spotted as spotted
use Rattle.jr_expr_sites.proofs.checks.divisor_check.Goals as goal

pub span-requires : goal.span-requires
span-requires g c = own_fits (begins_by g.A.Mark.span_from) g.A.Mark.fits_at c.args.base c.args.of.now c.requires.fits

pub returns-then-is_fine : goal.returns-then-is_fine
returns-then-is_fine g c G path =
    let T = g.A.Mark.span_from in
    let base = c.args.base in
    let e = expr_of c.args.of.now in
    let s = spots T path base e in
    on_ok_then c.put_nothing.result (λ h. walked_as G route.nothing (route.divisor_check T c.args.op path base e) c.args.out.now.items c.put_nothing.new.out.items
    (λ o. ap (λ (b : Bool). sites.unless b (sites.at_place (place G (sites.mark_of s).first) sites.checks)) (sym ((λ i. not (sym c.divides-needs.ensures i) || (spotted.nonzero_spots T G o path base e ∙ sym c.is_nonzero-is_safe.ensures) i) ∙ c.if-is_fine.true))) h) (c.put_nothing.ensures G)

pub returns : goal.returns
returns g c G path =
    let T = g.A.Mark.span_from in
    let base = c.args.base in
    let e = expr_of c.args.of.now in
    let s = spots T path base e in
    let at = c.span.result.from in
    let start : at ≡ spotted.start T base e = ap (λ (z : Span). z.from) c.span.ensures ∙ ap (λ (k : g.row.A.Denot). (T k base).from) (sym (expr_mark_is c.args.of.now)) in
    on_ok_then c.put_site.result (λ h. walked_as G (route.done sites.checks at) (route.divisor_check T c.args.op path base e) c.args.out.now.items c.put_site.new.out.items
    (λ o. ap (λ (k : ℕ). sites.at_place (place G k) sites.checks) (start ∙ sym (spotted.first_spots T G o path base e)) ∙ ap (λ (b : Bool). sites.unless b (sites.at_place (place G (sites.mark_of s).first) sites.checks)) (sym ((λ i. not (sym c.divides-needs.ensures i) || (spotted.nonzero_spots T G o path base e ∙ sym c.is_nonzero-is_safe.ensures) i) ∙ c.if-is_fine.false))) h) (c.put_site.ensures G)
