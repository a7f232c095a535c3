use Rattle.std.proofs.Common.{◌≡◌, ℕ, suc, ◌+◌, ◌-◌, ◌≤◌, length, refl, ap, subst, ◌∙◌}
use Rattle.jr_ast.specs.View.{exprs_of, stmts_of}
use Rattle.jr_cover.specs.Spots.{spot_exps, spot_stmts}
use Rattle.jr_expr_sites.specs.StepView.{given}
use Rattle.jr_expr_sites.specs.KnownFacts.{Others, known_of}
use Rattle.jr_expr_sites.specs.Routes.{begins_by, ends_by}
use Rattle.jr_piece_sites.specs.Fronts.{exps_front, stmts_front}
use Rattle.jr_piece_sites.specs.Growth.{GrownTo}
use Rattle.jr_cfg.specs.StatementRoutes.{NumberedAll}
use Rattle.jr_piece_sites.specs.Pieces.{locals_up_to}
use Rattle.jr_piece_sites.proofs.Growths as growth
use Rattle.jr_piece_sites.specs.Fronts.{exps_then_front}
use Rattle.jr_piece_sites.specs.Pieces.{exps_then_locals}
use Rattle.jr_piece_sites.proofs.Places as place
use Rattle.jr_piece_sites.proofs.MemberArms as arm
use Rattle.jr_piece_sites.proofs.member_fronts.put_args_then.Goals as goal

pub put_args-requires : goal.put_args-requires
put_args-requires g c = record { fits = c.requires.fits_args }

pub put_called_body-requires : goal.put_called_body-requires
put_called_body-requires g c = record { fits = c.requires.fits }

pub returns-in-None : goal.returns-in-None
returns-in-None g c =
    let T = g.A.Mark.span_from in
    let G = given g.F.Facts.decls g.F.Facts.types c.args.here.now in
    let path = c.args.path.now.steps.items in
    let old = c.args.out.now.items in
    let at = c.args.here.now.start in
    let n = c.args.number in
    let i = c.args.count in
    let first = c.args.first in
    let xs = c.args.args.now in
    let body = stmts_of c.args.body.now in
    let all = first + length xs in
    let so = NumberedAll T n path all at body in
    let es = spot_exps (begins_by T) (ends_by T) (exprs_of xs) at path first in
    let bs = λ (q : ℕ). spot_stmts (begins_by T) (ends_by T) body at path q in
    let whole = λ (o : Others). exps_then_front (known_of G o) es (bs all) i in
    let next = n + exps_then_locals (exprs_of xs) body i in
    let new = c.put_args.new.out.items in
    let h = c.in-None.ensures in
    let lt = place.below_front (length xs) (length xs) i refl h in
    growth.to_as G so so (λ o. exps_front (known_of G o) es i) whole n next n old new (λ o q. q) (λ o. arm.args_only (known_of G o) (begins_by T) (ends_by T) at path (bs all) xs first i lt)
    (place.nothing_more n (exps_then_locals (exprs_of xs) body i) (arm.no_args_locals body xs i lt)) (growth.walked_to G so (λ o. exps_front (known_of G o) es i) n old new c.in_ok-put_args.ensures)

pub returns-in-Some : goal.returns-in-Some
returns-in-Some g c =
    let T = g.A.Mark.span_from in
    let G = given g.F.Facts.decls g.F.Facts.types c.args.here.now in
    let path = c.args.path.now.steps.items in
    let old = c.args.out.now.items in
    let at = c.args.here.now.start in
    let n = c.args.number in
    let i = c.args.count in
    let first = c.args.first in
    let xs = c.args.args.now in
    let body = stmts_of c.args.body.now in
    let all = first + length xs in
    let so = NumberedAll T n path all at body in
    let es = spot_exps (begins_by T) (ends_by T) (exprs_of xs) at path first in
    let bs = λ (q : ℕ). spot_stmts (begins_by T) (ends_by T) body at path q in
    let whole = λ (o : Others). exps_then_front (known_of G o) es (bs all) i in
    let next = n + exps_then_locals (exprs_of xs) body i in
    let mid = c.put_args.new.out.items in
    let new = c.put_called_body.new.out.items in
    let j = c.in-Some.left in
    let le : length xs ≤ i = c.in-Some.ensures.0 in
    let is : j ≡ i - length xs = c.in-Some.ensures.1 in
    let off : c.saturating_sub.result ≡ length xs = c.saturating_sub.ensures ∙ place.taken_off (length xs) i j le is in
    let there : first + c.saturating_sub.result ≡ all = ap (λ (q : ℕ). first + q) off in
    let m = λ (q : ℕ) (o : Others). suc (stmts_front (known_of G o) (bs q) j) in
    growth.if_ok_then c.put_called_body.result (λ k p. growth.to_as G so so (λ o. exps_front (known_of G o) es i + m all o) whole (n + locals_up_to body j) next k old new (λ o q. q)
    (λ o. arm.args_and (known_of G o) (begins_by T) (ends_by T) at path (bs all) xs first i j le is) (ap (λ (q : ℕ). n + q) (arm.args_locals body xs i j le is))
    (growth.after_walk G so (λ o. exps_front (known_of G o) es i) (m all) (n + locals_up_to body j) k old mid new c.in_ok-put_args.ensures
    (subst (λ (q : ℕ). GrownTo G (NumberedAll T n path q at body) (m q) (n + locals_up_to body j) k mid new) there p))) c.put_called_body.ensures
