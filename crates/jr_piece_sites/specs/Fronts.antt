-- How many sites of a piece come before those of a part of it, in evaluation order (JLS 14, 15.7,
-- 15.12.4, 15.26): by cases on the piece and on the number of the part.
use Rattle.std.specs.Prelude.{ℕ, zero, suc, pred, ◌+◌, Bool, true, false, List, [], ◌∷◌, Option, Some, None, option_map, unwrap_or}
use Rattle.jr_ast.specs.Tree as tree
use Rattle.jr_ast.specs.StatementTree as statement
use Rattle.jr_ast.specs.MemberTree as declared
use Rattle.jr_runs.specs.Keys.{Keys}
use Rattle.jr_runs.specs.MemberTranslation.{is_synchronized}
use Rattle.jr_cover.specs.Ways.{size}
use Rattle.jr_cover.specs.Sites.{
  Known,
  exp_way,
  receiver_way,
  operand_way,
  target_load,
  stmt_way,
}
use Rattle.jr_pieces.specs.Before.{lock_check}
use Rattle.jr_piece_sites.specs.Parts.{behind, Between, valued, assigned, changed, Parts, leaf, named, dotted, one, two, row, parts_of}
use Rattle.jr_piece_sites.specs.Pieces as piece
use Rattle.jr_piece_sites.specs.Pieces.{Piece, part_of, method_front, constructor_front}

-- one, if it is so
abbrev pub one_if : Bool → ℕ
one_if true = 1
one_if false = 0

-- nothing stands in front of the first part
abbrev pub behind_first : ℕ → ℕ → ℕ
behind_first zero n = 0
behind_first (suc i) n = n

module _ {K : Keys} {A : Type 0} (X : Known K A) where
  -- ---- expressions

  abbrev pub in_front_of_second : Between → tree.Exp A → ℕ
  in_front_of_second valued e = size (exp_way X e)
  in_front_of_second assigned e = size (operand_way X e)
  in_front_of_second changed e = size (operand_way X e) + size (target_load X e)

  -- of the first arguments
  abbrev pub exps_front : tree.Exps A → ℕ → ℕ
  exps_front tree.end i = 0
  exps_front (tree.more e es) zero = 0
  exps_front (tree.more e es) (suc i) = size (exp_way X e) + exps_front es i

  abbrev pub row_front : Bool → tree.Target A → tree.Exps A → ℕ → ℕ
  row_front c tree.no_target es i = one_if c + exps_front es (pred i)
  row_front c (tree.on e) es i =
      behind_first i (size (receiver_way X (tree.on e)) + (one_if c + exps_front es (pred (pred i))))

  abbrev pub exp_front : Parts A → ℕ → ℕ
  exp_front leaf i = 0
  exp_front named i = 0
  exp_front (dotted e) i = 0
  exp_front (one k e) i = 0
  exp_front (two b l r) i = behind_first i (in_front_of_second b l)
  exp_front (row c t es) i = row_front c t es i

  -- ---- statements

  -- of the first statements
  abbrev pub stmts_front : statement.Stmts A → ℕ → ℕ
  stmts_front statement.end i = 0
  stmts_front (statement.more s ss) zero = 0
  stmts_front (statement.more s ss) (suc i) = size (stmt_way X s) + stmts_front ss i

  abbrev pub branch_front : tree.Exp A → statement.Stmt A → ℕ → ℕ
  branch_front c s zero = 0
  branch_front c s (suc zero) = size (exp_way X c)
  branch_front c s (suc (suc i)) = size (exp_way X c) + size (stmt_way X s)

  abbrev pub stmt_front : statement.Stmt A → ℕ → ℕ
  stmt_front (statement.local m is_final t w e) i = 0
  stmt_front (statement.eval m e) i = 0
  stmt_front (statement.branch m c s o) i = branch_front c s i
  -- its own site is the loop's first
  stmt_front (statement.loop m c s) i = suc (behind_first i (size (exp_way X c)))
  stmt_front (statement.return m e) i = 0
  stmt_front (statement.block m b) i = stmts_front b i
  -- the monitor is entered behind the test
  stmt_front (statement.sync m e b) i =
      behind_first i (size (exp_way X e) + (size (lock_check X m e) + (1 + stmts_front b (pred i))))
  stmt_front (statement.empty m) i = 0

  -- ---- members

  abbrev pub method_body : (is_locked : Bool) → statement.Stmts A → ℕ → ℕ
  method_body is_locked body i = one_if is_locked + stmts_front body i

  -- behind the arguments stands the call of the superclass's constructor
  abbrev pub exps_then_front : tree.Exps A → statement.Stmts A → ℕ → ℕ
  exps_then_front tree.end body i = suc (stmts_front body i)
  exps_then_front (tree.more e es) body zero = 0
  exps_then_front (tree.more e es) body (suc i) = size (exp_way X e) + exps_then_front es body i

  abbrev pub constructor_body : Option (tree.Exps A) → statement.Stmts A → ℕ → ℕ
  constructor_body None body i = suc (stmts_front body i)
  constructor_body (Some es) body i = exps_then_front es body i

  abbrev pub member_front : declared.Member A → ℕ → ℕ
  member_front (declared.field m mods t w init) i = 0
  member_front (declared.method m mods t w ps body) i =
      behind 0 (method_front mods t ps) (method_body (is_synchronized mods) body) i
  member_front (declared.constructor m mods w ps args body) i =
      behind 0 (constructor_front mods ps) (constructor_body args body) i
  member_front (declared.inner m c) i = 0

  -- ---- pieces

  abbrev pub front : Piece A → ℕ → ℕ
  front (piece.member m) i = member_front m i
  front (piece.stmt s) i = stmt_front s i
  front (piece.exp e) i = exp_front (parts_of e) i

  -- The sites that come before the piece to which a path leads: at each step those in front of the
  -- part.
  unfoldable pub before : Piece A → List ℕ → ℕ
  before x [] = 0
  before x (i ∷ is) = front x i + unwrap_or (option_map (λ c. before c is) (part_of x i)) 0
