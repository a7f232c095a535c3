-- What each arm of the walk over a statement needs and gives, where a place and a part are shown as
-- they are.
use Rattle.std.proofs.Common.{◌≡◌, ℕ, zero, suc, ◌+◌, ◌*◌, ◌<◌, ◌≤◌, List, [], ◌∷◌, ◌++◌, length, get_or, Option, Some, Bool, refl, sym, ap, subst, arith}
use Rattle.std.specs.Global.{Global}
use Rattle.std.specs.declared.boxed.Box.{Box}
use Rattle.jr_text.specs.declared.spans.Span.{Span}
use Rattle.jr_ast.specs.Tree as tree
use Rattle.jr_ast.specs.StatementTree as statement
use Rattle.jr_ast.specs.declared.stmts.Stmt.{Stmt}
use Rattle.jr_ast.specs.View.{stmt_of, stmts_of, else_of}
use Rattle.jr_ast.proofs.Sizes.{stmt_size, stmts_size, else_size}
use Rattle.jr_table.specs.Context.{in_own, local_of, locals_in, locals_in_else, locals_in_row}
use Rattle.jr_table.specs.Binding.{value, statement as whole}
use Rattle.jr_bind_expr.specs.Fits.{FitsType}
use Rattle.jr_rewrite.specs.Spots.{level}
use Rattle.jr_new_bodies.specs.declared.here.Here as raw
use Rattle.jr_new_bodies.specs.Known.{rows_of, context_of, IsKnown, ExpReady, TypeIsBound}
use Rattle.jr_new_bodies.specs.Walks.{ExpGathers, PartGathers}
use Rattle.jr_new_bodies.specs.Effects.{Effect}
use Rattle.jr_new_bodies.specs.declared.statements.Last.{Last}
use Rattle.jr_new_bodies.specs.declared.statements.Reached.TheVariants as reached
use Rattle.jr_new_bodies.specs.Bodies.{MaybeGathers, StmtGathers}
use Rattle.jr_new_bodies.specs.Ready.{ExpReadyIn, MaybeReady, StmtReady, StmtsReady, BranchReady, TurnsReady, SyncReady}
use Rattle.jr_new_bodies.specs.Moves.{StmtPasses, BodyPasses, SyncPasses}
use Rattle.jr_new_bodies.specs.Lasts.{IsLast, Leaves, BranchPasses, HeadPasses}
use Rattle.jr_new_bodies.specs.Locals.{LocalPasses}
use Rattle.jr_new_bodies.proofs.Bodying.{stays_here, local_gives, eval_gives, branch_gives, loop_gives, return_gives, block_gives, sync_gives, empty_gives, in_eval, in_branch, in_loop, in_return, in_block, in_sync, in_local, local_bound}

-- ---- measures

pub falls_both : (total a b x t : ℕ) → x ≡ a → total ≡ suc (a + b) → 5 * total ≡ t → 5 * (x + b) + 3 < t
falls_both total a b x t e w h = omega (arith, e, w, h)

pub falls_one : (total a x n t : ℕ) → x ≡ a → total ≡ suc a → 5 * total ≡ t → n < 5 → 5 * x + n < t
falls_one total a x n t e w h l = omega (arith, e, w, h, l)

size_within : {A : Type 0} (row : List (Stmt A)) (i : ℕ) (x : Stmt A) → i < length row → x ≡ get_or row i x → stmt_size (stmt_of x) ≤ stmts_size (stmts_of row)
unfolding stmt_size stmts_size else_size
size_within [] i x lt e = absurd (omega arith)
size_within (y ∷ ys) zero x lt e = let s = ap (λ (z : Stmt _). stmt_size (stmt_of z)) e in omega arith
size_within (y ∷ ys) (suc i) x lt e = let h = size_within ys i x (omega arith) e in omega arith

pub falls_item : {A : Type 0} (row : List (Stmt A)) (i : ℕ) (x : Stmt A) (t : ℕ) → i < length row → x ≡ get_or row i x → 5 * stmts_size (stmts_of row) + 2 ≡ t → 5 * stmt_size (stmt_of x) + 1 < t
falls_item row i x t lt e h = let s = size_within row i x lt e in omega (arith, s, h)

plus_nothing : (n k : ℕ) → k ≡ n → k ≡ n + 0
plus_nothing n k e = omega (arith, e)

plus_sum : (n a b k : ℕ) → k ≡ n + a + b → k ≡ n + (a + b)
plus_sum n a b k e = omega (arith, e)

module _ {A : Type 0} (tells : A → ℕ → Span) (F : A → ℕ → Type 0) (h : raw.Here) (n : ℕ) (path : List ℕ) (base : ℕ) (m : A) (at : ℕ) (start : at ≡ (tells m base).from) where
  abbrev pub B : A → ℕ → ℕ
  B k b = (tells k b).from

  abbrev pub Ready : statement.Stmt A → Type 0
  Ready x = StmtReady tells F h n path base x

  there : (P : ℕ → Type 0) → P (B m base) → P at
  there P x = subst P (sym start) x

  here : (P : ℕ → Type 0) → P at → P (B m base)
  here P x = subst P start x

  -- ---- what each needs

  pub local_needs : (f : Bool) (u : tree.TypeName A) (w : tree.Word A) (e : tree.Exp A) → Ready (statement.local m f u w e)
      → FitsType B F at u × (TypeIsBound B (rows_of h) (context_of h) at u × (F w.mark at × ExpReadyIn tells F (rows_of h) h.bound.now h.from (in_own (context_of h) (local_of (context_of h) n f u w)) value (path ++ 2 ∷ []) at e))
  local_needs f u w e ready =
      let p = in_local tells F h n path base m f u w e ready in (
        there (λ k. FitsType B F k u) p.0,
        (
          there (λ k. TypeIsBound B (rows_of h) (context_of h) k u) (local_bound tells F h n path base m f u w e ready),
          (there (λ k. F w.mark k) p.1.0, there (λ k. ExpReadyIn tells F (rows_of h) h.bound.now h.from (in_own (context_of h) (local_of (context_of h) n f u w)) value (path ++ 2 ∷ []) k e) p.1.1),
        ),
      )

  pub eval_needs : (e : tree.Exp A) → Ready (statement.eval m e) → ExpReady tells F h whole (path ++ 0 ∷ []) at e
  eval_needs e ready = there (λ k. ExpReady tells F h whole (path ++ 0 ∷ []) k e) (in_eval tells F h n path base m e ready)

  pub branch_needs : (e : tree.Exp A) (x y : Stmt A) (other : statement.Else A) → x ≡ y → Ready (statement.branch m e (stmt_of y) other) → BranchReady tells F h n path at e (stmt_of x) other
  branch_needs e x y other same ready = subst (λ z. BranchReady tells F h n path at e (stmt_of z) other) (sym same) (there (λ k. BranchReady tells F h n path k e (stmt_of y) other) (in_branch tells F h n path base m e (stmt_of y) other ready))

  pub turns_needs : (e : tree.Exp A) (x y : Stmt A) → x ≡ y → Ready (statement.loop m e (stmt_of y)) → TurnsReady tells F h n path at e (stmt_of x)
  turns_needs e x y same ready = subst (λ z. TurnsReady tells F h n path at e (stmt_of z)) (sym same) (there (λ k. TurnsReady tells F h n path k e (stmt_of y)) (in_loop tells F h n path base m e (stmt_of y) ready))

  pub return_needs : (e : Option (tree.Exp A)) → Ready (statement.return m e) → MaybeReady tells F h path 0 at e
  return_needs e ready = there (λ k. MaybeReady tells F h path 0 k e) (in_return tells F h n path base m e ready)

  pub block_needs : (x y : List (Stmt A)) → x ≡ y → Ready (statement.block m (stmts_of y)) → StmtsReady tells F h n path 0 at (stmts_of x)
  block_needs x y same ready = subst (λ z. StmtsReady tells F h n path 0 at (stmts_of z)) (sym same) (there (λ k. StmtsReady tells F h n path 0 k (stmts_of y)) (in_block tells F h n path base m (stmts_of y) ready))

  pub sync_needs : (e : tree.Exp A) (x y : List (Stmt A)) → x ≡ y → Ready (statement.sync m e (stmts_of y)) → SyncReady tells F h n path at e (stmts_of x)
  sync_needs e x y same ready = subst (λ z. SyncReady tells F h n path at e (stmts_of z)) (sym same) (there (λ k. SyncReady tells F h n path k e (stmts_of y)) (in_sync tells F h n path base m e (stmts_of y) ready))

  -- ---- what each gives

  abbrev pub Gives : statement.Stmt A → (k : ℕ) → raw.Here → (old new : Effect) → Type 0
  Gives x k i old new = StmtPasses tells n h base x k i old new

  pub local_returns : (f : Bool) (u : tree.TypeName A) (w : tree.Word A) (e : tree.Exp A) (k : ℕ) (i : raw.Here) (old new : Effect) → LocalPasses tells n h at f u w e k i old new → Gives (statement.local m f u w e) k i old new
  unfolding locals_in locals_in_else locals_in_row
  local_returns f u w e k i old new p =
      let q = here (λ j. LocalPasses tells n h j f u w e k i old new) p in
      record { number = q.number; goes = q.goes; gives = local_gives tells h n base m f u w e old new q.gives }

  pub eval_returns : (known : IsKnown h) (e : tree.Exp A) (old new : Effect) → ExpGathers tells h whole at e old new → Gives (statement.eval m e) n h old new
  unfolding locals_in locals_in_else locals_in_row
  eval_returns known e old new g = record {
    number = plus_nothing n n refl;
    goes = stays_here h known;
    gives = eval_gives tells h n base m e old new (here (λ j. ExpGathers tells h whole j e old new) g);
  }

  pub branch_leaves : (e : tree.Exp A) (x y : Stmt A) (other : statement.Else A) (l : Last A) (i : raw.Here) (old now : Effect) → x ≡ y → BranchPasses tells F n h path at e (stmt_of x) other l i old now
      → HeadPasses tells F n h path base (statement.branch m e (stmt_of y) other) (reached.To l) i old now
  unfolding locals_in locals_in_else locals_in_row
  branch_leaves e x y other l i old now same p =
      let q = here (λ j. BranchPasses tells F n h path j e (stmt_of y) other l i old now) (subst (λ z. BranchPasses tells F n h path at e (stmt_of z) other l i old now) same p) in
      let left = q.1 in (
        q.0,
        record {
          goes = left.goes;
          count = plus_sum n (locals_in (stmt_of y)) (locals_in_else other) (l.number + locals_in (stmt_of l.of.now)) left.count;
          ready = left.ready;
          gives = λ new g. let r = left.gives new g in branch_gives tells h n base m e (stmt_of y) other old r.0 r.1 new r.2 r.3 r.4;
        },
      )

  pub loop_leaves : (e : tree.Exp A) (x y : Stmt A) (old now : Effect) → x ≡ y → IsKnown h → PartGathers tells h (level 0) value at e old now → StmtReady tells F h n (path ++ 1 ∷ []) at (stmt_of x)
      → IsLast (stmt_of x) (statement.loop m e (stmt_of y))
      × Leaves tells F h (n + locals_in (statement.loop m e (stmt_of y))) (λ new. StmtGathers tells h n base (statement.loop m e (stmt_of y)) old new) (stmt_of x) n (path ++ 1 ∷ []) at h now
  unfolding locals_in locals_in_else locals_in_row
  loop_leaves e x y old now same known test ready = (
    ap (λ (z : Stmt A). stmt_of z) same,
    record {
      goes = stays_here h known;
      count = ap (λ (z : Stmt A). n + locals_in (stmt_of z)) same;
      ready = ready;
      gives = λ new g. loop_gives tells h n base m e (stmt_of y) old now new (here (λ j. PartGathers tells h (level 0) value j e old now) test)
          (here (λ j. StmtGathers tells h n j (stmt_of y) now new) (subst (λ z. StmtGathers tells h n at (stmt_of z) now new) same g));
    },
  )

  pub return_returns : (known : IsKnown h) (e : Option (tree.Exp A)) (old new : Effect) → MaybeGathers tells h at e old new → Gives (statement.return m e) n h old new
  unfolding locals_in locals_in_else locals_in_row
  return_returns known e old new g = record {
    number = plus_nothing n n refl;
    goes = stays_here h known;
    gives = return_gives tells h n base m e old new (here (λ j. MaybeGathers tells h j e old new) g);
  }

  pub block_returns : (x y : List (Stmt A)) (k : ℕ) (i : raw.Here) (old new : Effect) → x ≡ y → BodyPasses tells n h at (stmts_of x) k i old new → Gives (statement.block m (stmts_of y)) k i old new
  unfolding locals_in locals_in_else locals_in_row
  block_returns x y k i old new same p =
      let q = here (λ j. BodyPasses tells n h j (stmts_of y) k i old new) (subst (λ z. BodyPasses tells n h at (stmts_of z) k i old new) same p) in
      record { number = q.number; goes = q.goes; gives = block_gives tells h n base m (stmts_of y) old new q.gives }

  pub sync_returns : (e : tree.Exp A) (x y : List (Stmt A)) (k : ℕ) (i : raw.Here) (old new : Effect) → x ≡ y → SyncPasses tells n h at e (stmts_of x) k i old new → Gives (statement.sync m e (stmts_of y)) k i old new
  unfolding locals_in locals_in_else locals_in_row
  sync_returns e x y k i old new same p =
      let q = here (λ j. SyncPasses tells n h j e (stmts_of y) k i old new) (subst (λ z. SyncPasses tells n h at e (stmts_of z) k i old new) same p) in
      record { number = q.number; goes = q.goes; gives = let g = q.gives in sync_gives tells h n base m e (stmts_of y) old g.0 new g.1 g.2 }

  pub empty_returns : (known : IsKnown h) (e : Effect) → Gives (statement.empty m) n h e e
  unfolding locals_in locals_in_else locals_in_row
  empty_returns known e = record { number = plus_nothing n n refl; goes = stays_here h known; gives = empty_gives tells h n base m e }
