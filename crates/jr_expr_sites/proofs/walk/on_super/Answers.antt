use Rattle.std.proofs.Common.{ℕ, ap, subst}
use Rattle.jr_text.specs.declared.spans.Span.{Span}
use Rattle.jr_expr_sites.specs.StepView.{given}
use Rattle.jr_expr_sites.specs.Routes.{Route, Walked}
use Rattle.jr_expr_sites.specs.Routes as route
use Rattle.jr_expr_sites.proofs.Walking.{on_ok_then}
use Rattle.jr_expr_sites.proofs.walk.on_super.Goals as goal

pub returns : goal.returns
returns g c =
    let G = given g.F.Facts.decls g.F.Facts.types c.args.here.now in
    on_ok_then c.field_load.result (λ h. subst (λ (k : ℕ). Walked G (route.field_load k) c.args.out.now.items c.field_load.new.out.items) (ap (λ (z : Span). z.from) c.span.ensures) h) c.field_load.ensures
