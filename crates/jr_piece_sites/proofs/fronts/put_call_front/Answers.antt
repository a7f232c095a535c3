use Rattle.std.proofs.Common.{◌≡◌, ℕ, pred, [], ◌∷◌, ◌++◌, ap, ◌∙◌}
use Rattle.jr_ast.specs.View.{expr_of, exprs_of}
use Rattle.jr_cover.specs.Spots.{spot_exps}
use Rattle.jr_cover.specs.Ways.{size}
use Rattle.jr_expr_sites.specs.StepView.{given}
use Rattle.jr_expr_sites.specs.KnownFacts.{Others, known_of}
use Rattle.jr_expr_sites.specs.Routes.{begins_by, ends_by}
use Rattle.jr_expr_sites.specs.Routes as route
use Rattle.jr_expr_sites.proofs.Walking.{on_ok_then}
use Rattle.jr_piece_sites.specs.Fronts.{exps_front}
use Rattle.jr_piece_sites.proofs.Counting as counting
use Rattle.jr_piece_sites.proofs.fronts.put_call_front.Goals as goal

pub left-requires : goal.left-requires
left-requires g c = record { fits = c.requires.fits_target }

pub put_args-requires : goal.put_args-requires
put_args-requires g c = record { fits = c.requires.fits }

pub returns : goal.returns
returns g c =
    let T = g.A.Mark.span_from in
    let G = given g.F.Facts.decls g.F.Facts.types c.args.here.now in
    let path = c.args.path.now.steps.items in
    let old = c.args.out.now.items in
    let mid = c.left.new.out.items in
    let new = c.put_args.new.out.items in
    let n = λ (o : Others). size (route.left T (path ++ 0 ∷ []) c.args.at (expr_of c.args.target.now) G o) in
    let m = λ (k : ℕ) (o : Others). exps_front (known_of G o) (spot_exps (begins_by T) (ends_by T) (exprs_of c.args.args.now) c.args.at path 2) k in
    let k : c.saturating_sub.result ≡ pred (pred c.args.number) = c.saturating_sub.ensures ∙ counting.pred_pred_is c.args.number in
    on_ok_then c.put_args.result (λ h. counting.grows_both G n (m (pred (pred c.args.number))) old mid new (counting.walk_grows G (route.left T (path ++ 0 ∷ []) c.args.at (expr_of c.args.target.now)) old mid c.in_ok-left.ensures) (counting.grows_as G (m c.saturating_sub.result) (m (pred (pred c.args.number))) mid new (λ o. ap (λ (n : ℕ). m n o) k) h)) c.put_args.ensures
