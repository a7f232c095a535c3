use Rattle.std.proofs.Common.{[], ◌∷◌, ◌++◌, ap, sym}
use Rattle.jr_ast.specs.View.{expr_of}
use Rattle.jr_cover.specs.Ways.{size}
use Rattle.jr_expr_sites.specs.StepView.{given}
use Rattle.jr_expr_sites.specs.KnownFacts.{known_of}
use Rattle.jr_expr_sites.specs.Routes.{spots}
use Rattle.jr_expr_sites.specs.Routes as route
use Rattle.jr_expr_sites.proofs.Walking.{on_ok_then}
use Rattle.jr_piece_sites.specs.Fronts.{in_front_of_second}
use Rattle.jr_piece_sites.specs.Parts as parts
use Rattle.jr_piece_sites.specs.PartsView.{between_of}
use Rattle.jr_piece_sites.proofs.Counting as counting
use Rattle.jr_piece_sites.proofs.fronts.put_first.Goals as goal

pub operand-requires : goal.operand-requires
operand-requires g c = record { fits = c.requires.fits }

pub target_operand-requires : goal.target_operand-requires
target_operand-requires g c = record { fits = c.requires.fits }

pub put_read-requires : goal.put_read-requires
put_read-requires g c = record { fits = c.requires.fits }

pub returns-in-Valued : goal.returns-in-Valued
returns-in-Valued g c =
    let T = g.A.Mark.span_from in
    let G = given g.F.Facts.decls g.F.Facts.types c.args.here.now in
    let path = c.args.path.now.steps.items in
    let old = c.args.out.now.items in
    let e = expr_of c.args.first.now in
    let new = c.operand.new.out.items in
    on_ok_then c.operand.result (λ h. counting.grows_as G (λ o. size (route.exp T (path ++ 0 ∷ []) c.args.at e G o)) (λ o. in_front_of_second (known_of G o) (between_of c.args.between) (spots T (path ++ 0 ∷ []) c.args.at e)) old new
    (λ o. ap (λ b. in_front_of_second (known_of G o) (between_of b) (spots T (path ++ 0 ∷ []) c.args.at e)) (sym c.in-Valued.is)) (counting.walk_grows G (route.exp T (path ++ 0 ∷ []) c.args.at e) old new h)) c.operand.ensures

pub returns-in-Assigned : goal.returns-in-Assigned
returns-in-Assigned g c =
    let T = g.A.Mark.span_from in
    let G = given g.F.Facts.decls g.F.Facts.types c.args.here.now in
    let path = c.args.path.now.steps.items in
    let old = c.args.out.now.items in
    let e = expr_of c.args.first.now in
    let new = c.target_operand.new.out.items in
    on_ok_then c.target_operand.result (λ h. counting.grows_as G (λ o. size (route.target_operand T (path ++ 0 ∷ []) c.args.at e G o)) (λ o. in_front_of_second (known_of G o) (between_of c.args.between) (spots T (path ++ 0 ∷ []) c.args.at e)) old new
    (λ o. ap (λ b. in_front_of_second (known_of G o) (between_of b) (spots T (path ++ 0 ∷ []) c.args.at e)) (sym c.in-Assigned.is)) (counting.walk_grows G (route.target_operand T (path ++ 0 ∷ []) c.args.at e) old new h)) c.target_operand.ensures

pub returns-in-Changed : goal.returns-in-Changed
returns-in-Changed g c =
    let T = g.A.Mark.span_from in
    let G = given g.F.Facts.decls g.F.Facts.types c.args.here.now in
    let path = c.args.path.now.steps.items in
    let old = c.args.out.now.items in
    let e = expr_of c.args.first.now in
    let new = c.put_read.new.out.items in
    on_ok_then c.put_read.result (λ h. counting.grows_as G (λ o. in_front_of_second (known_of G o) parts.changed (spots T (path ++ 0 ∷ []) c.args.at e)) (λ o. in_front_of_second (known_of G o) (between_of c.args.between) (spots T (path ++ 0 ∷ []) c.args.at e)) old new
    (λ o. ap (λ b. in_front_of_second (known_of G o) (between_of b) (spots T (path ++ 0 ∷ []) c.args.at e)) (sym c.in-Changed.is)) h) c.put_read.ensures
