use Rattle.std.proofs.Common.{[], ◌∷◌, ◌++◌, option_map, refl, sym, subst}
use Rattle.std.specs.Prelude.{IfOk, IfSome}
use Rattle.jr_expr_sites.specs.StepView.{given}
use Rattle.jr_piece_sites.specs.Pieces.{FitsPiece}
use Rattle.jr_piece_sites.specs.PieceView.{piece_of}
use Rattle.jr_piece_sites.specs.PartSites.{PartPut}
use Rattle.jr_piece_sites.proofs.member_footprints.put_part.Goals as goal

pub put_piece-requires : goal.put_piece-requires
put_piece-requires g c =
    let T = g.A.Mark.span_from in
    let F = g.A.Mark.fits_at in
    record { fits = subst (λ r. IfSome r (λ p. FitsPiece T F c.args.at (piece_of p))) c.in-Some.is c.requires.fits }

pub returns-in-None : goal.returns-in-None
returns-in-None g c =
    let T = g.A.Mark.span_from in
    let G = given g.F.Facts.decls g.F.Facts.types c.args.here.now in
    let path = c.args.path.now.steps.items in
    let old = c.args.out.now.items in
    subst (λ x. PartPut T G c.args.number c.args.at (path ++ c.args.step ∷ []) (option_map piece_of x) c.args.number old old) (sym c.in-None.is) (refl, refl)

pub returns-in-Some : goal.returns-in-Some
returns-in-Some g c =
    let T = g.A.Mark.span_from in
    let G = given g.F.Facts.decls g.F.Facts.types c.args.here.now in
    let path = c.args.path.now.steps.items in
    let old = c.args.out.now.items in
    subst (λ x. IfOk c.put_piece.result (λ n. PartPut T G c.args.number c.args.at (path ++ c.args.step ∷ []) (option_map piece_of x) n old c.put_piece.new.out.items)) (sym c.in-Some.is) c.put_piece.ensures
