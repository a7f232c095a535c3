use Rattle.std.proofs.Common.{◌≡◌, ◌<◌, ℕ, suc, ap, arith}
use Rattle.jr_ast.specs.declared.exprs.Expr.{Expr}
use Rattle.jr_ast.specs.View.{expr_of, expr_kind, held_target, expr_row}
use Rattle.jr_ast.proofs.Sizes.{exp_size, target_size, exps_size}
use Rattle.jr_bind_parts.proofs.completing.+is_true.Goals as goal

falls : (whole size shown t : ℕ) → shown ≡ size → whole ≡ suc size → whole ≡ t → shown < t
falls whole size shown t e w h = omega arith

pub is_true-requires : goal.is_true-requires
unfolding exp_size target_size exps_size expr_kind held_target expr_row
is_true-requires g t c κs within =
    let size = ap (λ (x : Expr g.row.A.Denot). exp_size (expr_of x)) c.deref.ensures in
    let whole = ap exp_size (ap (expr_kind c.args.of.now.mark) c.in-Paren.is) in
    (falls _ _ _ t size whole c.decreases, within)
