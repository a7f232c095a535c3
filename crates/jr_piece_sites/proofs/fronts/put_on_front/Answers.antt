use Rattle.std.proofs.Common.{ℕ, pred, ◌+◌, [], ◌∷◌, ◌++◌}
use Rattle.jr_ast.specs.View.{expr_of, exprs_of}
use Rattle.jr_cover.specs.Spots.{spot_exps}
use Rattle.jr_cover.specs.Ways.{size}
use Rattle.jr_expr_sites.specs.StepView.{given}
use Rattle.jr_expr_sites.specs.KnownFacts.{Others, known_of}
use Rattle.jr_expr_sites.specs.Routes.{begins_by, ends_by}
use Rattle.jr_expr_sites.specs.Routes as route
use Rattle.jr_expr_sites.proofs.Walking.{on_ok_then}
use Rattle.jr_piece_sites.specs.Fronts.{behind_first, exps_front}
use Rattle.jr_piece_sites.proofs.Counting as counting
use Rattle.jr_piece_sites.proofs.fronts.put_on_front.Goals as goal

pub put_call_front-requires : goal.put_call_front-requires
put_call_front-requires g c = record { fits = c.requires.fits; fits_target = c.requires.fits_target }

pub returns-then-number-eq0 : goal.returns-then-number-eq0
returns-then-number-eq0 g c =
    let T = g.A.Mark.span_from in
    let G = given g.F.Facts.decls g.F.Facts.types c.args.here.now in
    let path = c.args.path.now.steps.items in
    let old = c.args.out.now.items in
    let n : Others → ℕ = (λ o. size (route.left T (path ++ 0 ∷ []) c.args.at (expr_of c.args.target.now) G o) + exps_front (known_of G o) (spot_exps (begins_by T) (ends_by T) (exprs_of c.args.args.now) c.args.at path 2) (pred (pred c.args.number))) in
    counting.grows_as G (λ o. 0) (λ o. behind_first c.args.number (n o)) old old (λ o. counting.none_first c.args.number (n o) c.if-number-eq0.true) (counting.stays G old)

pub returns : goal.returns
returns g c =
    let T = g.A.Mark.span_from in
    let G = given g.F.Facts.decls g.F.Facts.types c.args.here.now in
    let path = c.args.path.now.steps.items in
    let old = c.args.out.now.items in
    let new = c.put_call_front.new.out.items in
    let n : Others → ℕ = (λ o. size (route.left T (path ++ 0 ∷ []) c.args.at (expr_of c.args.target.now) G o) + exps_front (known_of G o) (spot_exps (begins_by T) (ends_by T) (exprs_of c.args.args.now) c.args.at path 2) (pred (pred c.args.number))) in
    on_ok_then c.put_call_front.result (λ h. counting.grows_as G n (λ o. behind_first c.args.number (n o)) old new (λ o. counting.all_behind c.args.number (n o) c.if-number-eq0.false) h) c.put_call_front.ensures
