-- Pieces of a member: the member, and the statements and expressions in it. Paths lead from piece to
-- piece; what stands in an inner class is no piece of the member around it.
use Rattle.std.specs.Prelude.{
  ◌≡◌,
  ℕ,
  zero,
  suc,
  pred,
  ◌+◌,
  List,
  [],
  ◌∷◌,
  length,
  Option,
  Some,
  None,
  option_map,
  option_and_then,
}
use Rattle.jr_text.specs.declared.spans.Span.{Span}
use Rattle.jr_ast.specs.Tree as tree
use Rattle.jr_ast.specs.StatementTree as statement
use Rattle.jr_ast.specs.MemberTree as declared
use Rattle.jr_ast.specs.Marks.{exp_mark, stmt_mark, member_mark}
use Rattle.jr_ast.specs.Nodes as nodes
use Rattle.jr_ast.specs.Nodes.{Node, maybe, args_children}
use Rattle.jr_table.specs.Context.{locals_in}
use Rattle.jr_bind_expr.specs.Fits.{FitsExp, FitsStmt}
use Rattle.jr_cover.specs.Spots.{Spot, spot_exp, spot_stmt, spot_member}
use Rattle.jr_expr_sites.specs.KnownFacts.{Others}
use Rattle.jr_expr_sites.specs.Routes.{begins_by, ends_by}
use Rattle.jr_cfg.specs.Numbering.{NumbersStmt}
use Rattle.jr_cfg.specs.MemberRoutes.{FitsSites, NumbersMember}
use Rattle.jr_piece_sites.specs.Parts.{behind, parts_of, exp_in, nth, only}

pub data Piece (A : Type 0) : Type 0 where
  member : (of : declared.Member A) → Piece A
  stmt : (of : statement.Stmt A) → Piece A
  exp : (of : tree.Exp A) → Piece A

module _ {A : Type 0} where
  abbrev pub node_of : Piece A → Node A
  node_of (member m) = nodes.member m
  node_of (stmt s) = nodes.stmt s
  node_of (exp e) = nodes.exp e

  abbrev pub mark_of : Piece A → A
  mark_of (member m) = member_mark m
  mark_of (stmt s) = stmt_mark s
  mark_of (exp e) = exp_mark e

  -- ---- parts by their numbers

  abbrev pub as_only : (own : ℕ) → tree.Exp A → ℕ → Option (Piece A)
  as_only k e i = option_map exp (only k e i)

  abbrev pub maybe_at : (own : ℕ) → Option (tree.Exp A) → ℕ → Option (Piece A)
  maybe_at k None i = None
  maybe_at k (Some e) i = as_only k e i

  abbrev pub nth_stmt : statement.Stmts A → ℕ → Option (Piece A)
  nth_stmt statement.end i = None
  nth_stmt (statement.more s ss) zero = Some (stmt s)
  nth_stmt (statement.more s ss) (suc i) = nth_stmt ss i

  abbrev pub nth_exp : tree.Exps A → ℕ → Option (Piece A)
  nth_exp es i = option_map exp (nth es i)

  abbrev pub else_stmt : statement.Else A → Option (Piece A)
  else_stmt statement.no_else = None
  else_stmt (statement.otherwise s) = Some (stmt s)

  abbrev pub in_branch : tree.Exp A → statement.Stmt A → statement.Else A → ℕ → Option (Piece A)
  in_branch c s o zero = Some (exp c)
  in_branch c s o (suc zero) = Some (stmt s)
  in_branch c s o (suc (suc zero)) = else_stmt o
  in_branch c s o (suc (suc (suc i))) = None

  abbrev pub in_loop : tree.Exp A → statement.Stmt A → ℕ → Option (Piece A)
  in_loop c s zero = Some (exp c)
  in_loop c s (suc zero) = Some (stmt s)
  in_loop c s (suc (suc i)) = None

  abbrev pub in_sync : tree.Exp A → statement.Stmts A → ℕ → Option (Piece A)
  in_sync e b zero = Some (exp e)
  in_sync e b (suc i) = nth_stmt b i

  abbrev pub stmt_part : statement.Stmt A → ℕ → Option (Piece A)
  stmt_part (statement.local m is_final t w e) i = as_only 2 e i
  stmt_part (statement.eval m e) i = as_only 0 e i
  stmt_part (statement.branch m c s o) i = in_branch c s o i
  stmt_part (statement.loop m c s) i = in_loop c s i
  stmt_part (statement.return m e) i = maybe_at 0 e i
  stmt_part (statement.block m b) i = nth_stmt b i
  stmt_part (statement.sync m e b) i = in_sync e b i
  stmt_part (statement.empty m) i = None

  -- how many parts of a method are its result, and of a constructor arguments of `super(..)`
  abbrev pub results : Option (tree.TypeName A) → ℕ
  results t = length (maybe (option_map nodes.type t))

  abbrev pub arguments : Option (tree.Exps A) → ℕ
  arguments args = length (args_children args)

  -- the number of the first statement of a method, and of the first argument of a constructor's
  -- `super(..)`
  abbrev pub method_front : List (declared.Modifier A) → Option (tree.TypeName A)
      → List (declared.Param A) → ℕ
  method_front mods t ps = suc (length mods + results t) + length ps

  abbrev pub constructor_front : List (declared.Modifier A) → List (declared.Param A) → ℕ
  constructor_front mods ps = suc (length mods) + length ps

  -- arguments, and then statements
  abbrev pub exps_then : tree.Exps A → statement.Stmts A → ℕ → Option (Piece A)
  exps_then tree.end b i = nth_stmt b i
  exps_then (tree.more e es) b zero = Some (exp e)
  exps_then (tree.more e es) b (suc i) = exps_then es b i

  abbrev pub in_constructor : Option (tree.Exps A) → statement.Stmts A → ℕ → Option (Piece A)
  in_constructor None b i = nth_stmt b i
  in_constructor (Some es) b i = exps_then es b i

  abbrev pub member_part : declared.Member A → ℕ → Option (Piece A)
  member_part (declared.field m mods t w init) i =
      behind None (suc (suc (length mods))) (maybe_at 0 init) i
  member_part (declared.method m mods t w ps body) i =
      behind None (method_front mods t ps) (nth_stmt body) i
  member_part (declared.constructor m mods w ps args body) i =
      behind None (constructor_front mods ps) (in_constructor args body) i
  member_part (declared.inner m c) i = None

  -- the part of this number, if it is an expression or a statement
  abbrev pub part_of : Piece A → ℕ → Option (Piece A)
  part_of (member m) i = member_part m i
  part_of (stmt s) i = stmt_part s i
  part_of (exp e) i = option_map exp (exp_in (parts_of e) i)

  unfoldable pub piece_at : Piece A → List ℕ → Option (Piece A)
  piece_at x [] = Some x
  piece_at x (i ∷ is) = option_and_then (λ c. piece_at c is) (part_of x i)

  -- ---- numbers of locals

  abbrev pub locals_up_to : statement.Stmts A → ℕ → ℕ
  locals_up_to statement.end i = 0
  locals_up_to (statement.more s ss) zero = 0
  locals_up_to (statement.more s ss) (suc i) = locals_in s + locals_up_to ss i

  abbrev pub branch_locals : statement.Stmt A → ℕ → ℕ
  branch_locals s zero = 0
  branch_locals s (suc zero) = 0
  branch_locals s (suc (suc i)) = locals_in s

  -- how many locals are declared in the parts in front of the one of this number
  abbrev pub stmt_locals : statement.Stmt A → ℕ → ℕ
  stmt_locals (statement.local m is_final t w e) i = 0
  stmt_locals (statement.eval m e) i = 0
  stmt_locals (statement.branch m c s o) i = branch_locals s i
  stmt_locals (statement.loop m c s) i = 0
  stmt_locals (statement.return m e) i = 0
  stmt_locals (statement.block m b) i = locals_up_to b i
  stmt_locals (statement.sync m e b) i = locals_up_to b (pred i)
  stmt_locals (statement.empty m) i = 0

  abbrev pub exps_then_locals : tree.Exps A → statement.Stmts A → ℕ → ℕ
  exps_then_locals tree.end b i = locals_up_to b i
  exps_then_locals (tree.more e es) b zero = 0
  exps_then_locals (tree.more e es) b (suc i) = exps_then_locals es b i

  abbrev pub constructor_locals : Option (tree.Exps A) → statement.Stmts A → ℕ → ℕ
  constructor_locals None b i = locals_up_to b i
  constructor_locals (Some es) b i = exps_then_locals es b i

  -- parameters are locals
  abbrev pub member_locals : declared.Member A → ℕ → ℕ
  member_locals (declared.field m mods t w init) i = 0
  member_locals (declared.method m mods t w ps body) i =
      length ps + behind 0 (method_front mods t ps) (locals_up_to body) i
  member_locals (declared.constructor m mods w ps args body) i =
      length ps + behind 0 (constructor_front mods ps) (constructor_locals args body) i
  member_locals (declared.inner m c) i = 0

  -- the number of the first local that is declared in the part, where n is that of the piece
  abbrev pub first_number : (n : ℕ) → Piece A → ℕ → ℕ
  first_number n (member m) i = member_locals m i
  first_number n (stmt s) i = n + stmt_locals s i
  first_number n (exp e) i = n

  -- an inner class has members of its own
  abbrev pub IsOwner : declared.Member A → Type 0
  IsOwner (declared.field m mods t w init) = Unit {0}
  IsOwner (declared.method m mods t w ps body) = Unit {0}
  IsOwner (declared.constructor m mods w ps args body) = Unit {0}
  IsOwner (declared.inner m c) = ⊥

-- ---- a piece whose parent begins at `base`

module _ {A : Type 0} (tells : A → ℕ → Span) where
  abbrev pub spotted : (base : ℕ) → (path : List ℕ) → Piece A → Piece Spot
  spotted base path (member m) = member (spot_member (begins_by tells) (ends_by tells) m base path)
  spotted base path (stmt s) = stmt (spot_stmt (begins_by tells) (ends_by tells) s base path)
  spotted base path (exp e) = exp (spot_exp (begins_by tells) (ends_by tells) e base path)

  abbrev pub FitsPiece : (Fits : A → ℕ → Type 0) → (base : ℕ) → Piece A → Type 0
  FitsPiece Fits base (member m) = FitsSites tells Fits base m
  FitsPiece Fits base (stmt s) = FitsStmt (begins_by tells) Fits base s
  FitsPiece Fits base (exp e) = FitsExp (begins_by tells) Fits base e

  -- Locals that it declares have the numbers from n on; those of a member from its parameters on.
  abbrev pub NumbersPiece : (n base : ℕ) → (path : List ℕ) → Piece A → Others → Type 0
  NumbersPiece n base path (member m) o = (path ≡ []) × NumbersMember tells base m o
  NumbersPiece n base path (stmt s) o =
      NumbersStmt (begins_by tells) (ends_by tells) o.number n s base path
  NumbersPiece n base path (exp e) o = Unit {0}

  -- a member begins where places count from
  abbrev pub StartsAt : (base start : ℕ) → Piece A → Type 0
  StartsAt base start (member m) = start ≡ begins_by tells (member_mark m) base
  StartsAt base start (stmt s) = Unit {0}
  StartsAt base start (exp e) = Unit {0}
