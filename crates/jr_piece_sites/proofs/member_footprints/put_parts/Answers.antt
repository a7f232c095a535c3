use Rattle.std.proofs.Common.{◌≡◌, ℕ, suc, ◌+◌, option_map, sym, subst, ◌∙◌, arith}
use Rattle.jr_expr_sites.specs.StepView.{given}
use Rattle.jr_piece_sites.specs.Pieces.{FitsPiece, part_of}
use Rattle.jr_piece_sites.specs.PieceView.{piece_of}
use Rattle.jr_piece_sites.proofs.Fitting.{Fits, part_fits}
use Rattle.jr_piece_sites.proofs.Putting as putting
use Rattle.jr_piece_sites.proofs.member_footprints.put_parts.Goals as goal

pub begin-at-requires : goal.begin-at-requires
begin-at-requires g c = record { fits = c.requires.fits }

pub put_part-requires : goal.put_part-requires
put_part-requires g c =
    let T = g.A.Mark.span_from in
    let F = g.A.Mark.fits_at in
    let f = c.args.found in
    let y = piece_of f.of in
    let fit = subst (λ (b : ℕ). Fits T F b (part_of y c.loop-step.step)) (sym c.begin-at.ensures) (part_fits T F f.base y c.requires.fits c.loop-step.step) in
    record { fits = putting.some_of piece_of (FitsPiece T F c.begin-at.result) c.part.result (λ p is. subst (Fits T F c.begin-at.result) (sym c.part.ensures ∙ is) fit) }

pub loop-step-init : goal.loop-step-init
loop-step-init g c =
    let T = g.A.Mark.span_from in
    let G = given g.F.Facts.decls g.F.Facts.types c.args.here.now in
    let path = c.args.path.now.steps.items in
    let f = c.args.found in
    let y = piece_of f.of in
    let old = c.args.out.now.items in
    putting.put_none T G f.number f.base path y c.args.from c.args.to old c.args.number c.requires.number c.requires.all

pub loop-step-preserved : goal.loop-step-preserved
loop-step-preserved g c =
    let T = g.A.Mark.span_from in
    let G = given g.F.Facts.decls g.F.Facts.types c.args.here.now in
    let path = c.args.path.now.steps.items in
    let f = c.args.found in
    let y = piece_of f.of in
    let old = c.args.out.now.items in
    let l = c.loop-step in
    let i = l.step in
    let next : i + 1 ≡ suc i = omega arith in
    putting.put_more T G f.number f.base path y c.args.from c.args.to old i l.number c.begin-at.result c.in_ok-number.number (i + 1) l.out.items c.put_part.new.out.items l.invariant c.loop-step-test.true next c.begin-at.ensures
    (option_map piece_of c.part.result) c.part.ensures c.in_ok-number.ensures

pub returns : goal.returns
returns g c o q =
    let T = g.A.Mark.span_from in
    let G = given g.F.Facts.decls g.F.Facts.types c.args.here.now in
    let path = c.args.path.now.steps.items in
    let f = c.args.found in
    let y = piece_of f.of in
    let old = c.args.out.now.items in
    let l = c.loop-step in
    let h = c.requires.ordered in
    let last : l.step ≡ c.args.to = omega (arith, h) in
    putting.put_all T G f.number f.base path y c.args.from c.args.to old l.step l.number l.out.items l.invariant last o q
