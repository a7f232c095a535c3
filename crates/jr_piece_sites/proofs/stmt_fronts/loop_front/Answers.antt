use Rattle.std.proofs.Common.{ℕ, suc, ◌+◌, [], ◌∷◌, ◌++◌, ap, ◌∙◌}
use Rattle.jr_ast.specs.View.{expr_of}
use Rattle.jr_cover.specs.Ways.{size}
use Rattle.jr_expr_sites.specs.StepView.{given}
use Rattle.jr_expr_sites.specs.KnownFacts.{Others}
use Rattle.jr_expr_sites.specs.Routes as route
use Rattle.jr_expr_sites.proofs.Walking.{on_ok_then}
use Rattle.jr_piece_sites.specs.Fronts.{behind_first}
use Rattle.jr_piece_sites.proofs.Counting as counting
use Rattle.jr_piece_sites.proofs.stmt_fronts.loop_front.Goals as goal

pub operand-requires : goal.operand-requires
operand-requires g c = record { fits = c.requires.fits }

pub returns-then-part-eq0 : goal.returns-then-part-eq0
returns-then-part-eq0 g c =
    let T = g.A.Mark.span_from in
    let G = given g.F.Facts.decls g.F.Facts.types c.args.here.now in
    let path = c.args.path.now.steps.items in
    let old = c.args.out.now.items in
    let new = c.put_site.new.out.items in
    let w = λ (o : Others). size (route.exp T (path ++ 0 ∷ []) c.args.at (expr_of c.args.test.now) G o) in
    counting.grows_as G (λ o. 1) (λ o. suc (behind_first c.args.part (w o))) old new (λ o. ap suc (counting.none_first c.args.part (w o) c.if-part-eq0.true)) (counting.walk_grows G (route.done _ c.args.at) old new (c.in_ok-put_site.ensures G))

pub returns : goal.returns
returns g c =
    let T = g.A.Mark.span_from in
    let G = given g.F.Facts.decls g.F.Facts.types c.args.here.now in
    let path = c.args.path.now.steps.items in
    let old = c.args.out.now.items in
    let mid = c.put_site.new.out.items in
    let new = c.operand.new.out.items in
    let w = λ (o : Others). size (route.exp T (path ++ 0 ∷ []) c.args.at (expr_of c.args.test.now) G o) in
    on_ok_then c.operand.result (λ h. counting.grows_as G (λ o. 1 + w o) (λ o. suc (behind_first c.args.part (w o))) old new (λ o. ap (λ (n : ℕ). 1 + n) (counting.all_behind c.args.part (w o) c.if-part-eq0.false) ∙ counting.one_more (behind_first c.args.part (w o)))
    (counting.grows_both G (λ o. 1) w old mid new (counting.walk_grows G (route.done _ c.args.at) old mid (c.in_ok-put_site.ensures G)) (counting.walk_grows G (route.exp T (path ++ 0 ∷ []) c.args.at (expr_of c.args.test.now)) mid new h))) c.operand.ensures
