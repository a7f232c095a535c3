use Rattle.std.proofs.Common.{map}
use Rattle.jr_ast.specs.View.{param_of}
use Rattle.jr_build_declared.specs.Fitting.{begins_by, ParamFits, ParamsFit}
use Rattle.jr_build_declared.proofs.DeclarationLists as lists
use Rattle.jr_build_declared.proofs.declaration_parts.param_declarations.Goals as goal

pub param_at-requires : goal.param_at-requires
param_at-requires g c =
    let B = begins_by g.A.Mark.span_from in
    lists.each_meets (λ xs. ParamsFit B g.A.Mark.fits_at c.args.base (map param_of xs)) (λ x. ParamFits B g.A.Mark.fits_at c.args.base (param_of x)) (λ x xs h. h)
    c.args.params.now c.loop-param.param-index c.param-item.result c.loop-param-test.true c.param-item.is c.requires
