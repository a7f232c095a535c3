-- A call of a statement's part has a smaller measure.
use Rattle.std.proofs.Common.{◌≡◌, ℕ, zero, suc, ◌+◌, ◌*◌, ◌<◌, ◌≤◌, List, [], ◌∷◌, length, get_or, ap, arith}
use Rattle.jr_ast.specs.declared.stmts.Stmt.{Stmt}
use Rattle.jr_ast.specs.View.{stmt_of, stmts_of}
use Rattle.jr_ast.proofs.Sizes.{stmt_size, stmts_size, else_size}

pub falls_second : (whole n size t : ℕ) → whole ≡ suc (n + size) → 4 * whole ≡ t → 4 * size + 2 < t
falls_second whole n size t w h = omega arith

-- the same statement, or list, passed on
pub falls_within : (n t : ℕ) → 4 * n + 1 ≡ t → 4 * n < t
falls_within n t h = omega arith

pub falls_block : (n t : ℕ) → 4 * n + 2 ≡ t → 4 * n + 1 < t
falls_block n t h = omega arith

module _ {A : Type 0} where
  size_within : (row : List (Stmt A)) (i : ℕ) (x : Stmt A) → i < length row → x ≡ get_or row i x → stmt_size (stmt_of x) ≤ stmts_size (stmts_of row)
  unfolding stmt_size stmts_size else_size
  size_within [] i x lt e = absurd (omega arith)
  size_within (y ∷ ys) zero x lt e = let s = ap (λ (z : Stmt A). stmt_size (stmt_of z)) e in omega arith
  size_within (y ∷ ys) (suc i) x lt e = let h = size_within ys i x (omega arith) e in omega arith

  pub falls_item : (row : List (Stmt A)) (i : ℕ) (x : Stmt A) (t : ℕ) → i < length row → x ≡ get_or row i x → 4 * stmts_size (stmts_of row) + 1 ≡ t → 4 * stmt_size (stmt_of x) < t
  falls_item row i x t lt e h = let s = size_within row i x lt e in omega arith
