use Rattle.std.proofs.Common.{ℕ, refl, sym, ap, subst}
use Rattle.jr_text.specs.declared.spans.Span.{Span}
use Rattle.jr_ast.specs.View.{type_of}
use Rattle.jr_bind_expr.specs.Fits.{FitsType}
use Rattle.jr_bind_parts.proofs.Declaring.{params_fit, params_step, params_end}
use Rattle.jr_bind_parts.proofs.declared.put_params.Goals as goal

pub loop-param-init : goal.loop-param-init
loop-param-init g c = record { fits = c.requires; noted = λ k d here. refl }

pub span-at-requires : goal.span-at-requires
span-at-requires g c =
    let B = λ (m : g.row.A.Denot) (b : ℕ). (g.A.Mark.span_from m b).from in
    let F = g.A.Mark.fits_at in
    let rows = c.args.table.now in
    let class = c.args.class in
    let base = c.args.base in
    let old = c.args.log.now.items in
    (params_fit B F rows class base c.args.params.now old c.loop-param.log.items c.loop-param.param-index c.param-item.result c.loop-param-test.true c.param-item.is c.loop-param.invariant).0

pub put_type-requires : goal.put_type-requires
put_type-requires g c =
    let B = λ (m : g.row.A.Denot) (b : ℕ). (g.A.Mark.span_from m b).from in
    let F = g.A.Mark.fits_at in
    let rows = c.args.table.now in
    let class = c.args.class in
    let base = c.args.base in
    let old = c.args.log.now.items in
    let fits = (params_fit B F rows class base c.args.params.now old c.loop-param.log.items c.loop-param.param-index c.param-item.result c.loop-param-test.true c.param-item.is c.loop-param.invariant).1 in
    subst (λ (n : ℕ). FitsType B F n (type_of c.param-item.result.ty)) (sym (ap (λ (z : Span). z.from) c.span-at.ensures)) fits

pub loop-param-preserved : goal.loop-param-preserved
loop-param-preserved g c =
    let B = λ (m : g.row.A.Denot) (b : ℕ). (g.A.Mark.span_from m b).from in
    let F = g.A.Mark.fits_at in
    let rows = c.args.table.now in
    let class = c.args.class in
    let base = c.args.base in
    let old = c.args.log.now.items in
    params_step B F rows class base c.args.params.now old c.loop-param.log.items c.put_type.new.log.items c.loop-param.param-index c.span-at.result.from c.param-item.result c.loop-param-test.true c.param-item.is c.loop-param.invariant
    (ap (λ (z : Span). z.from) c.span-at.ensures) c.in_ok-put_type.ensures

pub returns : goal.returns
returns g c =
    let B = λ (m : g.row.A.Denot) (b : ℕ). (g.A.Mark.span_from m b).from in
    let F = g.A.Mark.fits_at in
    let rows = c.args.table.now in
    let class = c.args.class in
    let base = c.args.base in
    let old = c.args.log.now.items in
    params_end B F rows class base c.args.params.now old c.loop-param.log.items c.loop-param.param-index c.loop-param-test.false c.loop-param.invariant
