-- Items by their numbers, and numbers that are counted from another on.
use Rattle.std.proofs.Common.{◌≡◌, ℕ, zero, suc, ◌+◌, ◌-◌, ◌<◌, ◌≤◌, List, [], ◌∷◌, length, Option, Some, None, option_map, refl, ap, arith}
use Rattle.std.specs.Prelude.{slice_get}
use Rattle.jr_ast.specs.declared.exprs.Expr.{Expr}
use Rattle.jr_ast.specs.declared.stmts.Stmt.{Stmt}
use Rattle.jr_ast.specs.View.{expr_of, exprs_of, stmt_of, stmts_of}
use Rattle.jr_ast.specs.Tree as tree
use Rattle.jr_piece_sites.specs.Parts.{behind, nth, nth_behind, only, in_call}
use Rattle.jr_piece_sites.specs.Pieces as piece
use Rattle.jr_ast.specs.StatementTree as statement
use Rattle.jr_piece_sites.specs.Pieces.{Piece, nth_stmt, nth_exp, exps_then, in_sync}

module _ {X : Type 0} (d : X) (f : ℕ → X) where
  pub behind_at : (k i n : ℕ) → k ≤ i → n ≡ i - k → f n ≡ behind d k f i
  behind_at zero i n le is = let same : n ≡ i = omega (arith, is) in ap f same
  behind_at (suc k) zero n le is = absurd (omega (arith, le))
  behind_at (suc k) (suc i) n le is = behind_at k i n (omega (arith, le)) (omega (arith, is))

  pub behind_off : (k i : ℕ) → i < k → d ≡ behind d k f i
  behind_off zero i lt = absurd (omega (arith, lt))
  behind_off (suc k) zero lt = refl
  behind_off (suc k) (suc i) lt = behind_off k i (omega (arith, lt))

-- a map behind another
pub after : {R X Y : Type 0} (now : R → X) (f : X → Y) (r : Option R) → option_map (λ x. f (now x)) r ≡ option_map f (option_map now r)
after now f None = refl
after now f (Some x) = refl

module _ {A : Type 0} where
  pub nth_view : (xs : List (Expr A)) (i : ℕ) → option_map expr_of (slice_get xs i) ≡ nth (exprs_of xs) i
  nth_view [] i = refl
  nth_view (x ∷ xs) zero = refl
  nth_view (x ∷ xs) (suc i) = nth_view xs i

  pub stmt_view : (xs : List (Stmt A)) (i : ℕ) → option_map (λ s. piece.stmt (stmt_of s)) (slice_get xs i) ≡ nth_stmt (stmts_of xs) i
  stmt_view [] i = refl
  stmt_view (x ∷ xs) zero = refl
  stmt_view (x ∷ xs) (suc i) = stmt_view xs i

  -- arguments, and then statements
  pub args_first : (xs : List (Expr A)) (b : List (Stmt A)) (i : ℕ) → i < length xs → nth_exp (exprs_of xs) i ≡ exps_then (exprs_of xs) (stmts_of b) i
  args_first [] b i lt = absurd (omega (arith, lt))
  args_first (x ∷ xs) b zero lt = refl
  args_first (x ∷ xs) b (suc i) lt = args_first xs b i (omega (arith, lt))

  pub then_stmts : (xs : List (Expr A)) (b : List (Stmt A)) (i n : ℕ) → length xs ≤ i → n ≡ i - length xs → nth_stmt (stmts_of b) n ≡ exps_then (exprs_of xs) (stmts_of b) i
  then_stmts [] b i n le is = let same : n ≡ i = omega (arith, is) in ap (nth_stmt (stmts_of b)) same
  then_stmts (x ∷ xs) b zero n le is = absurd (omega (arith, le))
  then_stmts (x ∷ xs) b (suc i) n le is = then_stmts xs b i n (omega (arith, le)) (omega (arith, is))

  -- one expression, by its number
  pub only_here : (e : tree.Exp A) (k i : ℕ) → i ≡ k → Some e ≡ only k e i
  only_here e k i is = behind_at None (nth (tree.more e tree.end)) k i 0 (omega (arith, is)) (omega (arith, is))

  pub only_none : (e : tree.Exp A) (k i : ℕ) → (i ≡ k → ⊥) → None ≡ only k e i
  only_none e zero zero h = absurd (h refl)
  only_none e zero (suc i) h = refl
  only_none e (suc k) zero h = refl
  only_none e (suc k) (suc i) h = only_none e k i (λ is. h (ap suc is))

  -- an argument of a call on a target
  pub args_behind : (e : tree.Exp A) (es : tree.Exps A) (i n : ℕ) → 1 ≤ i → n ≡ i - 1 → nth_behind es 1 n ≡ in_call e es i
  args_behind e es zero n le is = absurd (omega (arith, le))
  args_behind e es (suc i) n le is = let same : n ≡ i = omega (arith, is) in ap (nth_behind es 1) same

  -- a statement in a monitor
  pub sync_behind : (e : tree.Exp A) (b : statement.Stmts A) (i n : ℕ) → 1 ≤ i → n ≡ i - 1 → nth_stmt b n ≡ in_sync e b i
  sync_behind e b zero n le is = absurd (omega (arith, le))
  sync_behind e b (suc i) n le is = let same : n ≡ i = omega (arith, is) in ap (nth_stmt b) same

  pub lock_first : (e : tree.Exp A) (b : statement.Stmts A) (i : ℕ) → (1 ≤ i → ⊥) → Some (piece.exp e) ≡ in_sync e b i
  lock_first e b zero h = refl
  lock_first e b (suc i) h = absurd (h (omega arith))

  -- a row of parts that begins behind others
  module _ (f : ℕ → Option (Piece A)) (k j : ℕ) (same : j ≡ k) (i : ℕ) where
    pub part_off : (j ≤ i → ⊥) → None ≡ behind None k f i
    part_off h = behind_off None f k i (omega (arith, same, h))

    pub part_at : (n : ℕ) → j ≤ i → n ≡ i - j → f n ≡ behind None k f i
    part_at n le is = behind_at None f k i n (omega (arith, same, le)) (omega (arith, same, is))

-- ---- parts behind others

pub below_front : (j k i : ℕ) → j ≡ k → (j ≤ i → ⊥) → i < k
below_front j k i e h = omega (arith, e, h)

pub at_least : (j k i : ℕ) → j ≡ k → j ≤ i → k ≤ i
at_least j k i e h = omega (arith, e, h)

pub taken_off : (k i j : ℕ) → k ≤ i → j ≡ i - k → i - j ≡ k
taken_off k i j le is = omega (arith, le, is)

pub part_small : (i j first k : ℕ) → k ≤ i → j ≡ i - k → first ≡ i - j → i < 4294967296 → first + j < 4294967296
part_small i j first k le is e lt = omega (arith, le, is, e, lt)

pub nothing_more : (n m : ℕ) → 0 ≡ m → n ≡ n + m
nothing_more n m e = omega (arith, e)

pub count_off : (n m : ℕ) (f : ℕ → ℕ) (k i : ℕ) → n ≡ m → i < k → n ≡ m + behind 0 k f i
count_off n m f k i e lt = let h = behind_off 0 f k i lt in omega (arith, e, h)
