use Rattle.std.proofs.Common.{List, ap, sym, subst, ◌∙◌}
use Rattle.jr_ast.specs.declared.exprs.Expr.{Expr}
use Rattle.jr_ast.specs.View.{exprs_of}
use Rattle.jr_bind_expr.specs.Fits.{FitsExps}
use Rattle.jr_cover.specs.Sites.{exps_way}
use Rattle.jr_cover.specs.Spots.{spot_exps}
use Rattle.jr_cover.specs.Ways.{size}
use Rattle.jr_expr_sites.specs.StepView.{given}
use Rattle.jr_expr_sites.specs.KnownFacts.{Others, known_of}
use Rattle.jr_expr_sites.specs.Routes.{begins_by, ends_by}
use Rattle.jr_expr_sites.specs.Routes as route
use Rattle.jr_expr_sites.proofs.Walking.{on_ok_then}
use Rattle.jr_piece_sites.specs.Fronts.{exps_front}
use Rattle.jr_piece_sites.proofs.Counting as counting
use Rattle.jr_piece_sites.proofs.fronts.put_args.Goals as goal

pub exprs-requires : goal.exprs-requires
exprs-requires g c =
    let T = g.A.Mark.span_from in
    let F = g.A.Mark.fits_at in
    record { fits = subst (λ (xs : List (Expr g.row.A.Denot)). FitsExps (begins_by T) F c.args.at (exprs_of xs)) (sym c.first_ones-front.ensures) (counting.first_exps_fit (begins_by T) F c.args.at c.args.args.now c.args.count c.requires.fits) }

pub returns : goal.returns
returns g c =
    let T = g.A.Mark.span_from in
    let G = given g.F.Facts.decls g.F.Facts.types c.args.here.now in
    let path = c.args.path.now.steps.items in
    let old = c.args.out.now.items in
    let new = c.exprs.new.out.items in
    let f = c.args.first in
    let at = c.args.at in
    let X = λ (o : Others). known_of G o in
    on_ok_then c.exprs.result (λ h. counting.grows_as G (λ o. size (route.exps T path f at (exprs_of c.first_ones-front.result.now) G o)) (λ o. exps_front (X o) (spot_exps (begins_by T) (ends_by T) (exprs_of c.args.args.now) at path f) c.args.count) old new
    (λ o. ap (λ (xs : List (Expr g.row.A.Denot)). size (exps_way (X o) (spot_exps (begins_by T) (ends_by T) (exprs_of xs) at path f))) c.first_ones-front.ensures ∙ counting.first_exps (X o) (begins_by T) (ends_by T) at path c.args.args.now f c.args.count)
    (counting.walk_grows G (route.exps T path f at (exprs_of c.first_ones-front.result.now)) old new h)) c.exprs.ensures
