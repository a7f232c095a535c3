-- Locals of a piece's parts have their numbers behind those of the parts in front.
use Rattle.std.proofs.Common.{◌≡◌, ℕ, zero, suc, ◌+◌, List, [], length, Option, Some, None, option_map, sym, subst, arith}
use Rattle.jr_text.specs.declared.spans.Span.{Span}
use Rattle.jr_ast.specs.Tree as tree
use Rattle.jr_ast.specs.StatementTree as statement
use Rattle.jr_ast.specs.MemberTree as declared
use Rattle.jr_ast.specs.Marks.{exp_mark, stmt_mark, member_mark}
use Rattle.jr_ast.specs.Nodes.{exps}
use Rattle.jr_table.specs.Context.{locals_in}
use Rattle.jr_cover.specs.Spots.{onto, args_count}
use Rattle.jr_expr_sites.specs.KnownFacts.{Others}
use Rattle.jr_expr_sites.specs.Routes.{begins_by, ends_by}
use Rattle.jr_cfg.specs.Numbering.{NumbersStmt, NumbersElse, NumbersStmts}
use Rattle.jr_piece_sites.specs.Parts.{behind, parts_of, exp_in}
use Rattle.jr_piece_sites.specs.Pieces as piece
use Rattle.jr_piece_sites.specs.Pieces.{Piece, mark_of, part_of, nth_stmt, exps_then, in_constructor, maybe_at, method_front, constructor_front, arguments, locals_up_to, exps_then_locals, constructor_locals, member_locals, stmt_locals, first_number, NumbersPiece}
use Rattle.jr_piece_sites.proofs.Spotting.{method_number, arguments_are}

module _ {A : Type 0} (tells : A → ℕ → Span) (o : Others) where
  abbrev B : A → ℕ → ℕ
  B = begins_by tells

  abbrev E : A → ℕ → ℕ
  E = ends_by tells

  -- a part of the number i of the node at p, with the locals from n on
  abbrev pub Numbers : (at : ℕ) → (p : List ℕ) → (n i : ℕ) → Option (Piece A) → Type 0
  Numbers at p n i None = Unit {0}
  Numbers at p n i (Some c) = NumbersPiece tells n at (onto p i) c o

  no_locals : (at : ℕ) (p : List ℕ) (n i : ℕ) (e : Option (tree.Exp A)) → Numbers at p n i (option_map piece.exp e)
  no_locals at p n i None = tt
  no_locals at p n i (Some e) = tt

  maybe_none : (at : ℕ) (p : List ℕ) (n i : ℕ) (e : Option (tree.Exp A)) (j : ℕ) → Numbers at p n i (maybe_at 0 e j)
  maybe_none at p n i None j = tt
  maybe_none at p n i (Some e) j = no_locals at p n i _

  behind_numbers : (P : ℕ → ℕ → Option (Piece A) → Type 0) → ((n i : ℕ) → P n i None) → (k : ℕ) (f : ℕ → Option (Piece A)) (l : ℕ → ℕ) → ((j i : ℕ) → i ≡ k + j → P (l j) i (f j)) → (i : ℕ) → P (behind 0 k l i) i (behind None k f i)
  behind_numbers P none zero f l h i = h i i (omega arith)
  behind_numbers P none (suc k) f l h zero = none 0 0
  behind_numbers P none (suc k) f l h (suc i) = behind_numbers (λ n q. P n (suc q)) (λ n q. none n (suc q)) k f l (λ j q e. h j (suc q) (omega (arith, e))) i

  stmts_numbers : (at : ℕ) (p : List ℕ) (n : ℕ) (ss : statement.Stmts A) (k j i : ℕ) → i ≡ k + j → NumbersStmts B E o.number n ss at p k → Numbers at p (n + locals_up_to ss j) i (nth_stmt ss j)
  unfolding NumbersStmts
  stmts_numbers at p n statement.end k j i e h = tt
  stmts_numbers at p n (statement.more s ss) k zero i e h =
      let same : k ≡ i = omega (arith, e) in
      let none : n ≡ n + 0 = omega arith in
      subst (λ (q : ℕ). NumbersStmt B E o.number (n + 0) s at (onto p q)) same (subst (λ (q : ℕ). NumbersStmt B E o.number q s at (onto p k)) none h.0)
  stmts_numbers at p n (statement.more s ss) k (suc j) i e h =
      let sum : n + locals_in s + locals_up_to ss j ≡ n + (locals_in s + locals_up_to ss j) = omega arith in
      subst (λ (q : ℕ). Numbers at p q i (nth_stmt ss j)) sum (stmts_numbers at p (n + locals_in s) ss (suc k) j i (omega (arith, e)) h.1)

  exps_then_numbers : (at : ℕ) (p : List ℕ) (n : ℕ) (es : tree.Exps A) (b : statement.Stmts A) (k l j i : ℕ) → l ≡ k + length (exps es) → i ≡ k + j → NumbersStmts B E o.number n b at p l
      → Numbers at p (n + exps_then_locals es b j) i (exps_then es b j)
  exps_then_numbers at p n tree.end b k l j i d e h = stmts_numbers at p n b l j i (omega (arith, d, e)) h
  exps_then_numbers at p n (tree.more x es) b k l zero i d e h = tt
  exps_then_numbers at p n (tree.more x es) b k l (suc j) i d e h = exps_then_numbers at p n es b (suc k) l j i (omega (arith, d)) (omega (arith, e)) h

  in_constructor_numbers : (at : ℕ) (p : List ℕ) (n : ℕ) (args : Option (tree.Exps A)) (b : statement.Stmts A) (k l j i : ℕ) → l ≡ k + arguments args → i ≡ k + j → NumbersStmts B E o.number n b at p l
      → Numbers at p (n + constructor_locals args b j) i (in_constructor args b j)
  in_constructor_numbers at p n None b k l j i d e h = stmts_numbers at p n b l j i (omega (arith, d, e)) h
  in_constructor_numbers at p n (Some es) b k l j i d e h = exps_then_numbers at p n es b k l j i d e h

  stmt_numbers : (n b : ℕ) (p : List ℕ) (s : statement.Stmt A) → NumbersStmt B E o.number n s b p → (i : ℕ) → Numbers (B (stmt_mark s) b) p (n + stmt_locals s i) i (part_of (piece.stmt s) i)
  unfolding NumbersStmt NumbersElse NumbersStmts
  stmt_numbers n b p (statement.local m f t w e) h i = no_locals (B m b) p (n + 0) i _
  stmt_numbers n b p (statement.eval m e) h i = no_locals (B m b) p (n + 0) i _
  stmt_numbers n b p (statement.branch m c s r) h zero = tt
  stmt_numbers n b p (statement.branch m c s r) h (suc zero) =
      let none : n ≡ n + 0 = omega arith in
      subst (λ (q : ℕ). NumbersStmt B E o.number q s (B m b) (onto p 1)) none h.0
  stmt_numbers n b p (statement.branch m c s statement.no_else) h (suc (suc zero)) = tt
  stmt_numbers n b p (statement.branch m c s (statement.otherwise z)) h (suc (suc zero)) = h.1
  stmt_numbers n b p (statement.branch m c s r) h (suc (suc (suc i))) = tt
  stmt_numbers n b p (statement.loop m c s) h zero = tt
  stmt_numbers n b p (statement.loop m c s) h (suc zero) =
      let none : n ≡ n + 0 = omega arith in
      subst (λ (q : ℕ). NumbersStmt B E o.number q s (B m b) (onto p 1)) none h
  stmt_numbers n b p (statement.loop m c s) h (suc (suc i)) = tt
  stmt_numbers n b p (statement.return m e) h i = maybe_none (B m b) p (n + 0) i e i
  stmt_numbers n b p (statement.block m body) h i = stmts_numbers (B m b) p n body 0 i i (omega arith) h
  stmt_numbers n b p (statement.sync m e body) h zero = tt
  stmt_numbers n b p (statement.sync m e body) h (suc i) = stmts_numbers (B m b) p n body 1 i (suc i) (omega arith) h
  stmt_numbers n b p (statement.empty m) h i = tt

  -- the number of the first local of a body is that of parameters
  body_numbers : (at : ℕ) (p : List ℕ) (n k : ℕ) (f : ℕ → Option (Piece A)) (l : ℕ → ℕ) → ((j i : ℕ) → i ≡ k + j → Numbers at p (n + l j) i (f j)) → (i : ℕ) → Numbers at p (n + behind 0 k l i) i (behind None k f i)
  body_numbers at p n k f l h i = behind_numbers (λ q j x. Numbers at p (n + q) j x) (λ q j. tt) k f l h i

  member_numbers : (n b : ℕ) (p : List ℕ) (m : declared.Member A) → NumbersPiece tells n b p (piece.member m) o → (i : ℕ) → Numbers (B (member_mark m) b) p (member_locals m i) i (part_of (piece.member m) i)
  member_numbers n b p (declared.field m mods t w init) h i = behind_numbers (λ q j x. Numbers (B m b) p 0 j x) (λ q j. tt) (suc (suc (length mods))) (maybe_at 0 init) (λ j. j) (λ j q e. maybe_none (B m b) p 0 q init j) i
  member_numbers n b p (declared.method m mods t w ps body) h i =
      let k = method_front mods t ps in
      let numbers : NumbersStmts B E o.number (length ps) body (B m b) p k =
      subst (λ (q : List ℕ). NumbersStmts B E o.number (length ps) body (B m b) q k) (sym h.0) (subst (λ (q : ℕ). NumbersStmts B E o.number (length ps) body (B m b) [] q) (method_number tells mods t ps) h.1) in
      body_numbers (B m b) p (length ps) k (nth_stmt body) (locals_up_to body) (λ j q e. stmts_numbers (B m b) p (length ps) body k j q e numbers) i
  member_numbers n b p (declared.constructor m mods w ps args body) h i =
      let k = constructor_front mods ps in
      let numbers : NumbersStmts B E o.number (length ps) body (B m b) p (k + args_count B E args) = subst (λ (q : List ℕ). NumbersStmts B E o.number (length ps) body (B m b) q (k + args_count B E args)) (sym h.0) h.1 in
      let a = arguments_are tells args in
      body_numbers (B m b) p (length ps) k (in_constructor args body) (constructor_locals args body) (λ j q e. in_constructor_numbers (B m b) p (length ps) args body k (k + args_count B E args) j q (omega (arith, a)) e numbers) i
  member_numbers n b p (declared.inner m c) h i = tt

  pub part_numbers : (n b : ℕ) (p : List ℕ) (x : Piece A) → NumbersPiece tells n b p x o → (i : ℕ) → Numbers (B (mark_of x) b) p (first_number n x i) i (part_of x i)
  part_numbers n b p (piece.member m) h i = member_numbers n b p m h i
  part_numbers n b p (piece.stmt s) h i = stmt_numbers n b p s h i
  part_numbers n b p (piece.exp e) h i = no_locals (B (exp_mark e) b) p n i (exp_in (parts_of e) i)

-- ---- from a statement to the next

module _ {A : Type 0} where
  -- of two parts that are statements
  abbrev pub Both : Option (Piece A) → Option (Piece A) → (statement.Stmt A → Type 0) → Type 0
  Both (Some (piece.stmt s)) (Some (piece.stmt z)) P = P s
  Both (Some (piece.stmt s)) (Some (piece.member m)) P = Unit {0}
  Both (Some (piece.stmt s)) (Some (piece.exp e)) P = Unit {0}
  Both (Some (piece.stmt s)) None P = Unit {0}
  Both (Some (piece.member m)) y P = Unit {0}
  Both (Some (piece.exp e)) y P = Unit {0}
  Both None y P = Unit {0}

  abbrev pub Next : (ℕ → Option (Piece A)) → (ℕ → ℕ) → ℕ → Type 0
  Next f l i = Both (f i) (f (suc i)) (λ s. l (suc i) ≡ l i + locals_in s)

  no_next : (e : Option (tree.Exp A)) (y : Option (Piece A)) (P : statement.Stmt A → Type 0) → Both (option_map piece.exp e) y P
  no_next None y P = tt
  no_next (Some e) y P = tt

  stmts_next : (ss : statement.Stmts A) (i : ℕ) → Next (nth_stmt ss) (locals_up_to ss) i
  stmts_next statement.end i = tt
  stmts_next (statement.more s statement.end) zero = tt
  stmts_next (statement.more s (statement.more z ss)) zero = omega arith
  stmts_next (statement.more s ss) (suc i) = further (nth_stmt ss i) (nth_stmt ss (suc i)) (stmts_next ss i)
    where
      further : (x y : Option (Piece A)) → Both x y (λ z. locals_up_to ss (suc i) ≡ locals_up_to ss i + locals_in z) → Both x y (λ z. locals_in s + locals_up_to ss (suc i) ≡ locals_in s + locals_up_to ss i + locals_in z)
      further (Some (piece.stmt z)) (Some (piece.stmt u)) h = omega (arith, h)
      further (Some (piece.stmt z)) (Some (piece.member m)) h = tt
      further (Some (piece.stmt z)) (Some (piece.exp e)) h = tt
      further (Some (piece.stmt z)) None h = tt
      further (Some (piece.member m)) y h = tt
      further (Some (piece.exp e)) y h = tt
      further None y h = tt

  exps_then_next : (es : tree.Exps A) (b : statement.Stmts A) (i : ℕ) → Next (exps_then es b) (exps_then_locals es b) i
  exps_then_next tree.end b i = stmts_next b i
  exps_then_next (tree.more e es) b zero = tt
  exps_then_next (tree.more e es) b (suc i) = exps_then_next es b i

  in_constructor_next : (args : Option (tree.Exps A)) (b : statement.Stmts A) (i : ℕ) → Next (in_constructor args b) (constructor_locals args b) i
  in_constructor_next None b i = stmts_next b i
  in_constructor_next (Some es) b i = exps_then_next es b i

  behind_next : (k : ℕ) (f : ℕ → Option (Piece A)) (l : ℕ → ℕ) → ((i : ℕ) → Next f l i) → (i : ℕ) → Next (behind None k f) (behind 0 k l) i
  behind_next zero f l h i = h i
  behind_next (suc k) f l h zero = tt
  behind_next (suc k) f l h (suc i) = behind_next k f l h i

  -- more in front
  more_next : (n : ℕ) (f : ℕ → Option (Piece A)) (l : ℕ → ℕ) (i : ℕ) → Next f l i → Next f (λ j. n + l j) i
  more_next n f l i h = go (f i) (f (suc i)) h
    where
      go : (x y : Option (Piece A)) → Both x y (λ z. l (suc i) ≡ l i + locals_in z) → Both x y (λ z. n + l (suc i) ≡ n + l i + locals_in z)
      go (Some (piece.stmt z)) (Some (piece.stmt u)) h = omega (arith, h)
      go (Some (piece.stmt z)) (Some (piece.member m)) h = tt
      go (Some (piece.stmt z)) (Some (piece.exp e)) h = tt
      go (Some (piece.stmt z)) None h = tt
      go (Some (piece.member m)) y h = tt
      go (Some (piece.exp e)) y h = tt
      go None y h = tt

  maybe_next : (k : ℕ) (e : Option (tree.Exp A)) (l : ℕ → ℕ) (i : ℕ) → Next (behind None k (maybe_at 0 e)) l i
  maybe_next k e l i = go k i
    where
      none : (e : Option (tree.Exp A)) (j : ℕ) (y : Option (Piece A)) (P : statement.Stmt A → Type 0) → Both (maybe_at 0 e j) y P
      none None j y P = tt
      none (Some e) j y P = no_next _ y P

      go' : (k j : ℕ) (y : Option (Piece A)) (P : statement.Stmt A → Type 0) → Both (behind None k (maybe_at 0 e) j) y P
      go' zero j y P = none e j y P
      go' (suc k) zero y P = tt
      go' (suc k) (suc j) y P = go' k j y P

      go : (k i : ℕ) → Next (behind None k (maybe_at 0 e)) l i
      go k i = go' k i (behind None k (maybe_at 0 e) (suc i)) (λ s. l (suc i) ≡ l i + locals_in s)

  stmt_next : (s : statement.Stmt A) (i : ℕ) → Next (part_of (piece.stmt s)) (stmt_locals s) i
  stmt_next (statement.local m f t w e) i = no_next _ _ _
  stmt_next (statement.eval m e) i = no_next _ _ _
  stmt_next (statement.branch m c s o) zero = tt
  stmt_next (statement.branch m c s statement.no_else) (suc zero) = tt
  stmt_next (statement.branch m c s (statement.otherwise z)) (suc zero) = omega arith
  stmt_next (statement.branch m c s statement.no_else) (suc (suc zero)) = tt
  stmt_next (statement.branch m c s (statement.otherwise z)) (suc (suc zero)) = tt
  stmt_next (statement.branch m c s o) (suc (suc (suc i))) = tt
  stmt_next (statement.loop m c s) zero = tt
  stmt_next (statement.loop m c s) (suc zero) = tt
  stmt_next (statement.loop m c s) (suc (suc i)) = tt
  stmt_next (statement.return m e) i = maybe_next 0 e (λ j. 0) i
  stmt_next (statement.block m b) i = stmts_next b i
  stmt_next (statement.sync m e b) zero = tt
  stmt_next (statement.sync m e b) (suc i) = stmts_next b i
  stmt_next (statement.empty m) i = tt

  pub next_number : (n : ℕ) (x : Piece A) (i : ℕ) → Next (part_of x) (first_number n x) i
  next_number n (piece.member (declared.field m mods t w init)) i = maybe_next (suc (suc (length mods))) init (λ j. 0) i
  next_number n (piece.member (declared.method m mods t w ps body)) i =
      let k = method_front mods t ps in
      more_next (length ps) (behind None k (nth_stmt body)) (behind 0 k (locals_up_to body)) i (behind_next k (nth_stmt body) (locals_up_to body) (stmts_next body) i)
  next_number n (piece.member (declared.constructor m mods w ps args body)) i =
      let k = constructor_front mods ps in
      more_next (length ps) (behind None k (in_constructor args body)) (behind 0 k (constructor_locals args body)) i (behind_next k (in_constructor args body) (constructor_locals args body) (in_constructor_next args body) i)
  next_number n (piece.member (declared.inner m c)) i = tt
  next_number n (piece.stmt s) i = more_next n (part_of (piece.stmt s)) (stmt_locals s) i (stmt_next s i)
  next_number n (piece.exp e) i = no_next _ _ _
