use Rattle.std.proofs.Common.{ℕ, [], ◌∷◌, ◌++◌}
use Rattle.jr_ast.specs.View.{expr_of}
use Rattle.jr_expr_sites.specs.StepView.{given}
use Rattle.jr_expr_sites.specs.KnownFacts.{Others, known_of}
use Rattle.jr_expr_sites.specs.Routes.{spots}
use Rattle.jr_expr_sites.proofs.Walking.{on_ok_then}
use Rattle.jr_piece_sites.specs.Fronts.{behind_first, in_front_of_second}
use Rattle.jr_piece_sites.specs.PartsView.{between_of}
use Rattle.jr_piece_sites.proofs.Counting as counting
use Rattle.jr_piece_sites.proofs.fronts.put_two_front.Goals as goal

pub put_first-requires : goal.put_first-requires
put_first-requires g c = record { fits = c.requires.fits }

pub returns-then-number-eq0 : goal.returns-then-number-eq0
returns-then-number-eq0 g c =
    let T = g.A.Mark.span_from in
    let G = given g.F.Facts.decls g.F.Facts.types c.args.here.now in
    let path = c.args.path.now.steps.items in
    let old = c.args.out.now.items in
    let n : Others → ℕ = (λ o. in_front_of_second (known_of G o) (between_of c.args.between) (spots T (path ++ 0 ∷ []) c.args.at (expr_of c.args.first.now))) in
    counting.grows_as G (λ o. 0) (λ o. behind_first c.args.number (n o)) old old (λ o. counting.none_first c.args.number (n o) c.if-number-eq0.true) (counting.stays G old)

pub returns : goal.returns
returns g c =
    let T = g.A.Mark.span_from in
    let G = given g.F.Facts.decls g.F.Facts.types c.args.here.now in
    let path = c.args.path.now.steps.items in
    let old = c.args.out.now.items in
    let new = c.put_first.new.out.items in
    let n : Others → ℕ = (λ o. in_front_of_second (known_of G o) (between_of c.args.between) (spots T (path ++ 0 ∷ []) c.args.at (expr_of c.args.first.now))) in
    on_ok_then c.put_first.result (λ h. counting.grows_as G n (λ o. behind_first c.args.number (n o)) old new (λ o. counting.all_behind c.args.number (n o) c.if-number-eq0.false) h) c.put_first.ensures
