use Rattle.std.proofs.Common.{◌≡◌, ℕ, ◌+◌, take, drop, Some, option_map, get_or, refl, ap, sym, ◌∙◌}
use Rattle.jr_piece_sites.specs.Pieces as pure
use Rattle.jr_piece_sites.specs.Pieces.{FitsPiece, spotted}
use Rattle.jr_piece_sites.specs.PieceView.{piece_of}
use Rattle.jr_piece_sites.proofs.Descents as down
use Rattle.std.proofs.Common.{subst}
use Rattle.jr_piece_sites.proofs.pieces.piece_at.Goals as goal

pub begin-at-requires : goal.begin-at-requires
begin-at-requires g c = record { fits = c.loop-step.invariant.fits }

pub loop-step-init : goal.loop-step-init
loop-step-init g c = record { fits = c.requires.fits; leads = refl }

pub loop-step-preserved : goal.loop-step-preserved
loop-step-preserved g c =
    let T = g.A.Mark.span_from in
    let F = g.A.Mark.fits_at in
    let l = c.loop-step in
    let x = piece_of l.of in
    let y = piece_of c.in_ok-of.of in
    let i = l.step-index in
    let path = c.args.steps.now in
    let is : pure.part_of x (get_or path i 0) ≡ Some y = sym c.in_ok-of.ensures in
    record {
      fits = subst (λ (b : ℕ). FitsPiece T F b y) (sym c.begin-at.ensures) (down.piece_fits T F l.base x y (get_or path i 0) l.invariant.fits is);
      leads = ap (λ (b : ℕ). pure.piece_at (spotted T b (take (i + 1) path) y) (drop (i + 1) path)) c.begin-at.ensures ∙ down.piece_step T x y l.base path i c.loop-step-test.true is ∙ l.invariant.leads;
    }

pub returns-in_err-of-clause-spots : goal.returns-in_err-of-clause-spots
returns-in_err-of-clause-spots g c =
    let T = g.A.Mark.span_from in
    let l = c.loop-step in
    let path = c.args.steps.now in
    ap (option_map (λ p. spotted T p.base path (piece_of p.of))) c.from_residual.ensures ∙ sym (down.piece_off T (piece_of l.of) l.base path l.step-index c.loop-step-test.true (sym c.in_err-of.ensures)) ∙ l.invariant.leads

pub returns-clause-spots : goal.returns-clause-spots
returns-clause-spots g c =
    let T = g.A.Mark.span_from in
    let l = c.loop-step in
    sym (down.piece_end T (piece_of l.of) l.base c.args.steps.now l.step-index c.loop-step-test.false) ∙ l.invariant.leads
