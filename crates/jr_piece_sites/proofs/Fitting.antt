-- The places of a piece's parts fit where the piece begins.
use Rattle.std.proofs.Common.{ℕ, zero, suc, length, Option, Some, None, option_map, sym, subst}
use Rattle.jr_text.specs.declared.spans.Span.{Span}
use Rattle.jr_ast.specs.Tree as tree
use Rattle.jr_ast.specs.StatementTree as statement
use Rattle.jr_ast.specs.MemberTree as declared
use Rattle.jr_ast.specs.Marks.{exp_mark, stmt_mark, member_mark}
use Rattle.jr_bind_expr.specs.Fits.{FitsExp, FitsTarget, FitsExps, FitsMaybe, FitsStmt, FitsElse, FitsStmts}
use Rattle.jr_cfg.specs.MemberRoutes.{FitsSites, FitsArgs}
use Rattle.jr_expr_sites.specs.Routes.{begins_by}
use Rattle.jr_piece_sites.specs.Parts.{behind, nth, nth_behind}
use Rattle.jr_piece_sites.specs.Pieces as piece
use Rattle.jr_piece_sites.specs.Pieces.{Piece, mark_of, part_of, nth_stmt, nth_exp, exps_then, in_constructor, maybe_at, as_only, method_front, constructor_front, FitsPiece}
use Rattle.jr_piece_sites.proofs.Spotting.{behind_map}

module _ {A : Type 0} (tells : A → ℕ → Span) (F : A → ℕ → Type 0) where
  abbrev B : A → ℕ → ℕ
  B = begins_by tells

  abbrev pub Fits : ℕ → Option (Piece A) → Type 0
  Fits at None = Unit {0}
  Fits at (Some x) = FitsPiece tells F at x

  behind_fits : (at k : ℕ) (f : ℕ → Option (Piece A)) → ((i : ℕ) → Fits at (f i)) → (i : ℕ) → Fits at (behind None k f i)
  behind_fits at zero f h i = h i
  behind_fits at (suc k) f h zero = tt
  behind_fits at (suc k) f h (suc i) = behind_fits at k f h i

  exps_fit : (at : ℕ) (es : tree.Exps A) → FitsExps B F at es → (i : ℕ) → Fits at (nth_exp es i)
  unfolding FitsExps
  exps_fit at tree.end f i = tt
  exps_fit at (tree.more e es) f zero = f.0
  exps_fit at (tree.more e es) f (suc i) = exps_fit at es f.1 i

  stmts_fit : (at : ℕ) (ss : statement.Stmts A) → FitsStmts B F at ss → (i : ℕ) → Fits at (nth_stmt ss i)
  unfolding FitsStmts
  stmts_fit at statement.end f i = tt
  stmts_fit at (statement.more s ss) f zero = f.0
  stmts_fit at (statement.more s ss) f (suc i) = stmts_fit at ss f.1 i

  args_fit : (at k : ℕ) (es : tree.Exps A) → FitsExps B F at es → (i : ℕ) → Fits at (option_map piece.exp (nth_behind es k i))
  args_fit at k es f i = subst (Fits at) (sym (behind_map piece.exp k (nth es) i)) (behind_fits at k (nth_exp es) (exps_fit at es f) i)

  only_fits : (at k : ℕ) (e : tree.Exp A) → FitsExp B F at e → (i : ℕ) → Fits at (as_only k e i)
  unfolding FitsExps
  only_fits at k e f i = args_fit at k (tree.more e tree.end) (f, tt) i

  maybe_fits : (at : ℕ) (e : Option (tree.Exp A)) → FitsMaybe B F at e → (i : ℕ) → Fits at (maybe_at 0 e i)
  maybe_fits at None f i = tt
  maybe_fits at (Some e) f i = only_fits at 0 e f i

  exps_then_fit : (at : ℕ) (es : tree.Exps A) (b : statement.Stmts A) → FitsExps B F at es → FitsStmts B F at b → (i : ℕ) → Fits at (exps_then es b i)
  unfolding FitsExps
  exps_then_fit at tree.end b f g i = stmts_fit at b g i
  exps_then_fit at (tree.more e es) b f g zero = f.0
  exps_then_fit at (tree.more e es) b f g (suc i) = exps_then_fit at es b f.1 g i

  in_constructor_fits : (at : ℕ) (args : Option (tree.Exps A)) (b : statement.Stmts A) → FitsArgs tells F at args → FitsStmts B F at b → (i : ℕ) → Fits at (in_constructor args b i)
  in_constructor_fits at None b f g i = stmts_fit at b g i
  in_constructor_fits at (Some es) b f g i = exps_then_fit at es b f g i

  exp_fits : (b : ℕ) (e : tree.Exp A) → FitsExp B F b e → (i : ℕ) → Fits (B (exp_mark e) b) (part_of (piece.exp e) i)
  unfolding FitsExp FitsTarget FitsExps
  exp_fits b (tree.number m n) f i = tt
  exp_fits b (tree.truth m v) f i = tt
  exp_fits b (tree.null m) f i = tt
  exp_fits b (tree.string m s) f i = tt
  exp_fits b (tree.name m w) f i = tt
  exp_fits b (tree.field m e w) f i = only_fits (B m b) 0 e f.1 i
  exp_fits b (tree.super_field m w) f i = tt
  exp_fits b (tree.this m) f i = tt
  exp_fits b (tree.class_literal m t) f i = tt
  exp_fits b (tree.call m tree.no_target w es) f i = args_fit (B m b) 1 es f.3 i
  exp_fits b (tree.call m (tree.on e) w es) f zero = f.1
  exp_fits b (tree.call m (tree.on e) w es) f (suc i) = args_fit (B m b) 1 es f.3 i
  exp_fits b (tree.super_call m w es) f i = args_fit (B m b) 1 es f.2 i
  exp_fits b (tree.create m t es) f i = args_fit (B m b) 1 es f.2 i
  exp_fits b (tree.paren m e) f i = only_fits (B m b) 0 e f.1 i
  exp_fits b (tree.cast m t e) f i = only_fits (B m b) 1 e f.2 i
  exp_fits b (tree.unary m op e) f i = only_fits (B m b) 0 e f.1 i
  exp_fits b (tree.bump m op e) f i = only_fits (B m b) 0 e f.1 i
  exp_fits b (tree.binary m op l r) f zero = f.1
  exp_fits b (tree.binary m op l r) f (suc zero) = f.2
  exp_fits b (tree.binary m op l r) f (suc (suc i)) = tt
  exp_fits b (tree.assign m l r) f zero = f.1
  exp_fits b (tree.assign m l r) f (suc zero) = f.2
  exp_fits b (tree.assign m l r) f (suc (suc i)) = tt
  exp_fits b (tree.compound m op l r) f zero = f.1
  exp_fits b (tree.compound m op l r) f (suc zero) = f.2
  exp_fits b (tree.compound m op l r) f (suc (suc i)) = tt

  stmt_fits : (b : ℕ) (s : statement.Stmt A) → FitsStmt B F b s → (i : ℕ) → Fits (B (stmt_mark s) b) (part_of (piece.stmt s) i)
  unfolding FitsStmt FitsElse FitsStmts
  stmt_fits b (statement.local m is_final t w e) f i = only_fits (B m b) 2 e f.3 i
  stmt_fits b (statement.eval m e) f i = only_fits (B m b) 0 e f.1 i
  stmt_fits b (statement.branch m c s o) f zero = f.1
  stmt_fits b (statement.branch m c s o) f (suc zero) = f.2
  stmt_fits b (statement.branch m c s statement.no_else) f (suc (suc zero)) = tt
  stmt_fits b (statement.branch m c s (statement.otherwise z)) f (suc (suc zero)) = f.3
  stmt_fits b (statement.branch m c s o) f (suc (suc (suc i))) = tt
  stmt_fits b (statement.loop m c s) f zero = f.1
  stmt_fits b (statement.loop m c s) f (suc zero) = f.2
  stmt_fits b (statement.loop m c s) f (suc (suc i)) = tt
  stmt_fits b (statement.return m e) f i = maybe_fits (B m b) e f.1 i
  stmt_fits b (statement.block m body) f i = stmts_fit (B m b) body f.1 i
  stmt_fits b (statement.sync m e body) f zero = f.1
  stmt_fits b (statement.sync m e body) f (suc i) = stmts_fit (B m b) body f.2 i
  stmt_fits b (statement.empty m) f i = tt

  member_fits : (b : ℕ) (m : declared.Member A) → FitsSites tells F b m → (i : ℕ) → Fits (B (member_mark m) b) (part_of (piece.member m) i)
  member_fits b (declared.field m mods t w init) f i = behind_fits (B m b) (suc (suc (length mods))) (maybe_at 0 init) (maybe_fits (B m b) init f.2) i
  member_fits b (declared.method m mods t w ps body) f i = behind_fits (B m b) (method_front mods t ps) (nth_stmt body) (stmts_fit (B m b) body f.2) i
  member_fits b (declared.constructor m mods w ps args body) f i =
      behind_fits (B m b) (constructor_front mods ps) (in_constructor args body) (in_constructor_fits (B m b) args body f.2 f.3) i
  member_fits b (declared.inner m c) f i = tt

  pub part_fits : (b : ℕ) (x : Piece A) → FitsPiece tells F b x → (i : ℕ) → Fits (B (mark_of x) b) (part_of x i)
  part_fits b (piece.member m) f i = member_fits b m f i
  part_fits b (piece.stmt s) f i = stmt_fits b s f i
  part_fits b (piece.exp e) f i = exp_fits b e f i

  pub stmt_own : (b : ℕ) (s : statement.Stmt A) → FitsStmt B F b s → F (stmt_mark s) b
  unfolding FitsStmt FitsElse FitsStmts
  stmt_own b (statement.local m is_final t w e) f = f.0
  stmt_own b (statement.eval m e) f = f.0
  stmt_own b (statement.branch m c s o) f = f.0
  stmt_own b (statement.loop m c s) f = f.0
  stmt_own b (statement.return m e) f = f.0
  stmt_own b (statement.block m body) f = f.0
  stmt_own b (statement.sync m e body) f = f.0
  stmt_own b (statement.empty m) f = f

  pub member_own : (b : ℕ) (m : declared.Member A) → FitsSites tells F b m → F (member_mark m) b
  member_own b (declared.field m mods t w init) f = f.0
  member_own b (declared.method m mods t w ps body) f = f.0
  member_own b (declared.constructor m mods w ps args body) f = f.0
  member_own b (declared.inner m c) f = f
