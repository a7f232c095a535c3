use Rattle.std.proofs.Common.{◌≡◌, ℕ, suc, ◌+◌, Vec, Global, List, length, Option, Some, ap, sym, subst, arith}
use Rattle.jr_ast.specs.declared.exprs.Expr.{Expr}
use Rattle.jr_ast.specs.View.{exprs_of, stmts_of}
use Rattle.jr_bind_expr.specs.Fits.{FitsExps}
use Rattle.jr_cover.specs.Spots.{spot_exps, spot_stmts}
use Rattle.jr_expr_sites.specs.StepView.{given}
use Rattle.jr_expr_sites.specs.KnownFacts.{known_of}
use Rattle.jr_expr_sites.specs.Routes.{begins_by, ends_by}
use Rattle.jr_piece_sites.specs.Fronts.{stmts_front}
use Rattle.jr_piece_sites.specs.Growth.{GrownTo}
use Rattle.jr_cfg.specs.StatementRoutes.{NumberedAll}
use Rattle.jr_piece_sites.specs.Pieces.{locals_up_to}
use Rattle.jr_piece_sites.proofs.Growths as growth
use Rattle.jr_ast.specs.View.{args_of}
use Rattle.jr_cfg.specs.MemberRoutes.{FitsArgs}
use Rattle.jr_cover.specs.Spots.{spot_args}
use Rattle.jr_piece_sites.specs.Fronts.{constructor_body, exps_then_front}
use Rattle.jr_piece_sites.specs.Pieces.{arguments, exps_then_locals, constructor_locals}
use Rattle.jr_piece_sites.proofs.MemberArms as arm
use Rattle.jr_piece_sites.proofs.member_fronts.put_constructor_body.Goals as goal

pub put_called_body-requires : goal.put_called_body-requires
put_called_body-requires g c = record { fits = c.requires.fits }

pub put_args_then-requires : goal.put_args_then-requires
put_args_then-requires g c =
    let T = g.A.Mark.span_from in
    let F = g.A.Mark.fits_at in
    let whole = subst (λ (v : Option (Vec (Expr g.row.A.Denot) Global)). FitsArgs T F c.args.here.now.start (args_of v)) c.in-Some.is c.requires.fits_args in
    record { fits = c.requires.fits; fits_args = subst (λ (xs : List (Expr g.row.A.Denot)). FitsExps (begins_by T) F c.args.here.now.start (exprs_of xs)) (sym c.deref.ensures.value) whole; small = c.requires.small }

pub returns-in-None : goal.returns-in-None
returns-in-None g c =
    let T = g.A.Mark.span_from in
    let G = given g.F.Facts.decls g.F.Facts.types c.args.here.now in
    let path = c.args.path.now.steps.items in
    let old = c.args.out.now.items in
    let at = c.args.here.now.start in
    let n = c.args.number in
    let i = c.args.count in
    let first = c.args.first in
    let body = stmts_of c.args.body.now in
    let goes = λ (args : Option (Vec (Expr g.row.A.Denot) Global)) (k : ℕ) (new : _). GrownTo G (NumberedAll T n path (first + arguments (args_of args)) at body)
    (λ o. constructor_body (known_of G o) (spot_args (begins_by T) (ends_by T) (args_of args) at path first) (spot_stmts (begins_by T) (ends_by T) body at path (first + arguments (args_of args))) i) (n + constructor_locals (args_of args) body i) k old new in
    let new = c.put_called_body.new.out.items in
    let there : first ≡ first + 0 = omega arith in
    growth.if_ok_then c.put_called_body.result (λ k p. subst (λ (v : Option (Vec (Expr g.row.A.Denot) Global)). goes v k new) (sym c.in-None.is)
    (subst (λ (q : ℕ). GrownTo G (NumberedAll T n path q at body) (λ o. suc (stmts_front (known_of G o) (spot_stmts (begins_by T) (ends_by T) body at path q) i)) (n + locals_up_to body i) k old new) there p)) c.put_called_body.ensures

pub returns-in-Some : goal.returns-in-Some
returns-in-Some g c =
    let T = g.A.Mark.span_from in
    let G = given g.F.Facts.decls g.F.Facts.types c.args.here.now in
    let path = c.args.path.now.steps.items in
    let old = c.args.out.now.items in
    let at = c.args.here.now.start in
    let n = c.args.number in
    let i = c.args.count in
    let first = c.args.first in
    let body = stmts_of c.args.body.now in
    let goes = λ (args : Option (Vec (Expr g.row.A.Denot) Global)) (k : ℕ) (new : _). GrownTo G (NumberedAll T n path (first + arguments (args_of args)) at body)
    (λ o. constructor_body (known_of G o) (spot_args (begins_by T) (ends_by T) (args_of args) at path first) (spot_stmts (begins_by T) (ends_by T) body at path (first + arguments (args_of args))) i) (n + constructor_locals (args_of args) body i) k old new in
    let new = c.put_args_then.new.out.items in
    let xs = c.deref.result.now in
    let there : first + length xs ≡ first + arguments (Some (exprs_of xs)) = ap (λ (q : ℕ). first + q) (sym (arm.args_length xs)) in
    growth.if_ok_then c.put_args_then.result (λ k p. subst (λ (v : Option (Vec (Expr g.row.A.Denot) Global)). goes v k new) (sym c.in-Some.is)
    (subst (λ (l : List (Expr g.row.A.Denot)). GrownTo G (NumberedAll T n path (first + arguments (Some (exprs_of l))) at body)
    (λ o. exps_then_front (known_of G o) (spot_exps (begins_by T) (ends_by T) (exprs_of l) at path first) (spot_stmts (begins_by T) (ends_by T) body at path (first + arguments (Some (exprs_of l)))) i) (n + exps_then_locals (exprs_of l) body i) k old new) c.deref.ensures.value
    (subst (λ (q : ℕ). GrownTo G (NumberedAll T n path q at body) (λ o. exps_then_front (known_of G o) (spot_exps (begins_by T) (ends_by T) (exprs_of xs) at path first) (spot_stmts (begins_by T) (ends_by T) body at path q) i) (n + exps_then_locals (exprs_of xs) body i) k old new) there p))) c.put_args_then.ensures
