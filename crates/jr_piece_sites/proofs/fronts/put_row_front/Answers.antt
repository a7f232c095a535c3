use Rattle.std.proofs.Common.{◌≡◌, ℕ, pred, ap, ◌∙◌}
use Rattle.jr_ast.specs.View.{exprs_of}
use Rattle.jr_cover.specs.Spots.{spot_exps}
use Rattle.jr_expr_sites.specs.StepView.{given}
use Rattle.jr_expr_sites.specs.KnownFacts.{Others, known_of}
use Rattle.jr_expr_sites.specs.Routes.{begins_by, ends_by}
use Rattle.jr_expr_sites.proofs.Walking.{on_ok_then}
use Rattle.jr_piece_sites.specs.Fronts.{one_if, exps_front}
use Rattle.jr_piece_sites.proofs.Counting as counting
use Rattle.jr_piece_sites.proofs.fronts.put_row_front.Goals as goal

pub put_args-requires : goal.put_args-requires
put_args-requires g c = record { fits = c.requires.fits }

pub returns : goal.returns
returns g c =
    let T = g.A.Mark.span_from in
    let G = given g.F.Facts.decls g.F.Facts.types c.args.here.now in
    let path = c.args.path.now.steps.items in
    let old = c.args.out.now.items in
    let mid = c.put_if.new.out.items in
    let new = c.put_args.new.out.items in
    let m = λ (k : ℕ) (o : Others). exps_front (known_of G o) (spot_exps (begins_by T) (ends_by T) (exprs_of c.args.args.now) c.args.at path 1) k in
    let k : c.saturating_sub.result ≡ pred c.args.number = c.saturating_sub.ensures ∙ counting.pred_is c.args.number in
    on_ok_then c.put_args.result (λ h. counting.grows_both G (λ o. one_if c.args.is_created) (m (pred c.args.number)) old mid new (c.in_ok-put_if.ensures G) (counting.grows_as G (m c.saturating_sub.result) (m (pred c.args.number)) mid new (λ o. ap (λ (n : ℕ). m n o) k) h)) c.put_args.ensures
