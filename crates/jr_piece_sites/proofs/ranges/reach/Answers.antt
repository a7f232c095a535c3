use Rattle.std.proofs.Common.{◌≡◌, [], ◌++◌, None, ap, sym, subst, ◌∙◌}
use Rattle.jr_expr_sites.specs.StepView.{given}
use Rattle.jr_expr_sites.specs.Routes.{begins_by}
use Rattle.jr_ast.proofs.Rows.{member_mark_is}
use Rattle.std.specs.Prelude.{IfOk, IfSome}
use Rattle.jr_piece_sites.specs.Pieces.{FitsPiece, StartsAt, spotted, piece_at}
use Rattle.jr_piece_sites.specs.PieceView.{piece_of}
use Rattle.jr_piece_sites.specs.Descent.{Descended}
use Rattle.jr_piece_sites.proofs.ranges.reach.Goals as goal

pub descend-requires : goal.descend-requires
descend-requires g c =
    let T = g.A.Mark.span_from in
    let F = g.A.Mark.fits_at in
    let s = c.whole-start in
    record {
      fits = subst (λ (X : Type 0). X) (λ i. FitsPiece T F (sym s.ensures.base i) (sym s.ensures.of i)) c.requires.fits;
      begins = subst (λ (X : Type 0). X) (λ i. StartsAt T (sym s.ensures.base i) c.args.here.now.start (sym s.ensures.of i)) (c.requires.begins ∙ ap (λ (k : g.row.A.Denot). begins_by T k c.args.base) (sym (member_mark_is c.args.member.now)));
    }

pub returns-clause-none : goal.returns-clause-none
returns-clause-none g c =
    let T = g.A.Mark.span_from in
    let s = c.whole-start in
    subst (λ (X : Type 0). X) (λ i. IfOk c.descend.result (λ r. None ≡ r → None ≡ piece_at (spotted T (s.ensures.base i) (c.new.ensures.items i) (s.ensures.of i)) (c.deref.ensures.value i))) c.descend.ensures.none

pub returns-clause-found : goal.returns-clause-found
returns-clause-found g c =
    let T = g.A.Mark.span_from in
    let F = g.A.Mark.fits_at in
    let G = given g.F.Facts.decls g.F.Facts.types c.args.here.now in
    let old = c.args.out.now.items in
    let new = c.descend.new.out.items in
    let s = c.whole-start in
    subst (λ (X : Type 0). X) (λ i. IfOk c.descend.result (λ r. IfSome r (λ f. Descended T F G (s.ensures.number i) (s.ensures.base i) (c.new.ensures.items i) (s.ensures.of i) (c.deref.ensures.value i) [] f.number f.base (piece_of f.of) (c.new.ensures.items i ++ c.deref.ensures.value i) old new))) c.descend.ensures.found
