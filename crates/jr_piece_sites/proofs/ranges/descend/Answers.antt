use Rattle.std.proofs.Common.{◌≡◌, ℕ, ◌+◌, List, [], ◌∷◌, ◌++◌, take, drop, get_or, append_assoc, Some, None, option_map, ap, sym, subst, ◌∙◌}
use Rattle.jr_expr_sites.specs.StepView.{given}
use Rattle.jr_piece_sites.specs.Pieces.{part_of}
use Rattle.jr_piece_sites.specs.PieceView.{piece_of}
use Rattle.jr_piece_sites.specs.Descent.{Descended}
use Rattle.jr_piece_sites.proofs.Descents as down
use Rattle.std.proofs.lemmas.List.{take_more, append-nil}
use Rattle.jr_piece_sites.proofs.ranges.descend.Goals as goal

pub front-requires : goal.front-requires
front-requires g c = record { fits = c.loop-step.invariant.gone.fits; start = c.loop-step.invariant.gone.start }

pub begin-at-requires : goal.begin-at-requires
begin-at-requires g c = record { fits = c.loop-step.invariant.gone.fits }

pub loop-step-init : goal.loop-step-init
loop-step-init g c =
    let T = g.A.Mark.span_from in
    let F = g.A.Mark.fits_at in
    let G = given g.F.Facts.decls g.F.Facts.types c.args.here.now in
    let path = c.args.path.now.steps.items in
    let old = c.args.out.now.items in
    let s = c.args.start in
    let x = piece_of s.of in
    let steps = c.args.steps.now in
    let same : c.extend_from_slice.new.self.items ≡ path = c.in_ok-extend_from_slice.ensures.items ∙ ap (λ (q : List ℕ). q ++ c.as_slice.result.now) c.new.ensures.items ∙ c.as_slice.ensures.value in
    record {
      gone = subst (λ (q : List ℕ). Descended T F G s.number s.base path x steps steps s.number s.base x q old old) (sym same) (down.begun T F G s.number s.base path x steps old c.requires.fits c.requires.begins);
      place = same ∙ sym (append-nil path);
    }

pub loop-step-preserved : goal.loop-step-preserved
loop-step-preserved g c =
    let T = g.A.Mark.span_from in
    let F = g.A.Mark.fits_at in
    let G = given g.F.Facts.decls g.F.Facts.types c.args.here.now in
    let path = c.args.path.now.steps.items in
    let old = c.args.out.now.items in
    let s = c.args.start in
    let x = piece_of s.of in
    let steps = c.args.steps.now in
    let l = c.loop-step in
    let i = l.step-index in
    let y = piece_of l.found.of in
    let place = l.place.steps.items in
    let at = l.found.base in
    let k = l.found.number in
    let rest = drop (i + 1) steps in
    let step = get_or steps i 0 in
    let d = l.invariant.gone in
    let new = c.front.new.out.items in
    let z = piece_of c.in-Some.of in
    let lt = c.loop-step-test.true in
    let is : part_of y step ≡ Some z = sym c.part.ensures ∙ ap (option_map piece_of) c.in-Some.is in
    let more = subst (λ (q : List ℕ). Descended T F G s.number s.base path x steps q k at y place old l.out.items) (down.left_of steps i lt) d in
    record {
      gone = down.gone T F G s.number s.base path x steps old step rest k at y place l.out.items new z c.in_ok-number.number c.begin-at.result c.push.new.self.items more is c.in_ok-number.ensures c.begin-at.ensures c.in_ok-push.ensures.items;
      place = c.in_ok-push.ensures.items ∙ ap (λ (q : List ℕ). q ++ step ∷ []) l.invariant.place ∙ append_assoc path (take i steps) (step ∷ []) ∙ ap (λ (q : List ℕ). path ++ q) (sym (take_more steps i 0 lt));
    }

pub returns-in_default-clause-none : goal.returns-in_default-clause-none
returns-in_default-clause-none g c empty =
    let T = g.A.Mark.span_from in
    let F = g.A.Mark.fits_at in
    let G = given g.F.Facts.decls g.F.Facts.types c.args.here.now in
    let path = c.args.path.now.steps.items in
    let old = c.args.out.now.items in
    let s = c.args.start in
    let x = piece_of s.of in
    let steps = c.args.steps.now in
    let l = c.loop-step in
    let i = l.step-index in
    let y = piece_of l.found.of in
    let place = l.place.steps.items in
    let at = l.found.base in
    let k = l.found.number in
    let rest = drop (i + 1) steps in
    let step = get_or steps i 0 in
    let is : part_of y step ≡ None = sym c.part.ensures ∙ ap (option_map piece_of) c.in_default.is in
    let more = subst (λ (q : List ℕ). Descended T F G s.number s.base path x steps q k at y place old l.out.items) (down.left_of steps i c.loop-step-test.true) l.invariant.gone in
    down.gone_off T F G s.number s.base path x steps old step rest k at y place l.out.items more is
