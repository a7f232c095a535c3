use Rattle.std.proofs.Common.{not, Bool, ap, ◌∙◌}
use Rattle.jr_ast.specs.View.{expr_of}
use Rattle.jr_cover.specs.Sites.{unless}
use Rattle.jr_cover.specs.Ways.{size}
use Rattle.jr_expr_sites.specs.StepView.{given}
use Rattle.jr_expr_sites.specs.KnownFacts.{Others}
use Rattle.jr_expr_sites.specs.Routes as route
use Rattle.jr_expr_sites.proofs.Walking.{on_ok_then}
use Rattle.jr_cfg.specs.StatementRoutes as list
use Rattle.jr_piece_sites.specs.Fronts.{one_if}
use Rattle.jr_piece_sites.proofs.Counting as counting
use Rattle.jr_piece_sites.proofs.Growths as growth
use Rattle.jr_expr_sites.specs.KnownFacts.{place}
use Rattle.jr_cover.specs.Sites.{What}
use Rattle.jr_piece_sites.proofs.stmt_fronts.put_entry.Goals as goal

pub is_never_null-is_there-requires : goal.is_never_null-is_there-requires
is_never_null-is_there-requires g c = record { fits = c.requires.fits }

pub returns : goal.returns
returns g c path =
    let T = g.A.Mark.span_from in
    let G = given g.F.Facts.decls g.F.Facts.types c.args.here.now in
    let old = c.args.out.now.items in
    let mid = c.put_if.new.out.items in
    let new = c.put_site.new.out.items in
    let e = expr_of c.args.object.now in
    let at = c.args.at in
    let w = λ (o : Others). size (list.lock_check T path at e G o) in
    let b = c.is_never_null-is_there.result in
    on_ok_then c.put_site.result (λ h. counting.grows_both G w (λ o. 1) old mid new
    (counting.grows_as G (λ o. one_if (not b)) w old mid (λ o. growth.test_size b (place G at) What.checks ∙ ap (λ (x : Bool). size (unless x (route.done What.checks at G o))) (c.is_never_null-is_there.ensures path)) (c.in_ok-put_if.ensures G))
    (counting.walk_grows G (route.done What.enters at) mid new h)) (c.put_site.ensures G)
