-- What stands in front of a part of each kind of statement, where places and parts are shown as they
-- are.
use Rattle.std.proofs.Common.{◌≡◌, ℕ, suc, pred, ◌+◌, Bool, List, [], ◌∷◌, ◌++◌, Option, sym, subst, arith}
use Rattle.jr_text.specs.declared.spans.Span.{Span}
use Rattle.jr_ast.specs.Tree as tree
use Rattle.jr_ast.specs.StatementTree as statement
use Rattle.jr_ast.specs.declared.stmts.Stmt.{Stmt}
use Rattle.jr_ast.specs.View.{stmt_of, stmts_of}
use Rattle.jr_bind_expr.specs.Fits.{FitsExp, FitsStmt, FitsElse, FitsStmts}
use Rattle.jr_cover.specs.Spots.{spot_stmt, spot_else, spot_stmts}
use Rattle.jr_cover.specs.Ways.{size}
use Rattle.jr_cfg.specs.Numbering.{NumbersStmt, NumbersElse, NumbersStmts}
use Rattle.jr_cfg.specs.StatementRoutes.{Numbered, NumberedAll}
use Rattle.jr_cfg.specs.StatementRoutes as list
use Rattle.jr_expr_sites.specs.KnownFacts.{Given, known_of}
use Rattle.jr_expr_sites.specs.Routes.{Steps, begins_by, ends_by, spots}
use Rattle.jr_expr_sites.specs.Routes as route
use Rattle.jr_piece_sites.specs.Fronts.{behind_first, branch_front, stmts_front, stmt_front}
use Rattle.jr_piece_sites.specs.Growth.{Grows, GrownTo}
use Rattle.jr_piece_sites.specs.Pieces.{branch_locals, locals_up_to, stmt_locals}
use Rattle.jr_piece_sites.proofs.Counting.{stays}

module _ {A : Type 0} (tells : A → ℕ → Span) (base : ℕ) (m : A) (at : ℕ) (start : at ≡ begins_by tells m base) where
  abbrev B : A → ℕ → ℕ
  B = begins_by tells

  abbrev E : A → ℕ → ℕ
  E = ends_by tells

  here : (P : ℕ → Type 0) → P at → P (B m base)
  here P x = subst P start x

  there : (P : ℕ → Type 0) → P (B m base) → P at
  there P x = subst P (sym start) x

  module _ (F : A → ℕ → Type 0) where
    pub branch_fits : (e : tree.Exp A) (x y : Stmt A) (other : statement.Else A) → x ≡ y → FitsStmt B F base (statement.branch m e (stmt_of y) other) → FitsExp B F at e × FitsStmt B F at (stmt_of x)
    unfolding FitsStmt FitsElse FitsStmts
    branch_fits e x y other same h = (there (λ k. FitsExp B F k e) h.1, subst (λ (z : Stmt A). FitsStmt B F at (stmt_of z)) (sym same) (there (λ k. FitsStmt B F k (stmt_of y)) h.2))

    pub loop_fits : (e : tree.Exp A) (x : statement.Stmt A) → FitsStmt B F base (statement.loop m e x) → FitsExp B F at e
    unfolding FitsStmt FitsElse FitsStmts
    loop_fits e x h = there (λ k. FitsExp B F k e) h.1

    pub block_fits : (x y : List (Stmt A)) → x ≡ y → FitsStmt B F base (statement.block m (stmts_of y)) → FitsStmts B F at (stmts_of x)
    unfolding FitsStmt FitsElse FitsStmts
    block_fits x y same h = subst (λ (z : List (Stmt A)). FitsStmts B F at (stmts_of z)) (sym same) (there (λ k. FitsStmts B F k (stmts_of y)) h.1)

    pub sync_fits : (e : tree.Exp A) (x y : List (Stmt A)) → x ≡ y → FitsStmt B F base (statement.sync m e (stmts_of y)) → FitsExp B F at e × FitsStmts B F at (stmts_of x)
    unfolding FitsStmt FitsElse FitsStmts
    sync_fits e x y same h = (there (λ k. FitsExp B F k e) h.1, subst (λ (z : List (Stmt A)). FitsStmts B F at (stmts_of z)) (sym same) (there (λ k. FitsStmts B F k (stmts_of y)) h.2))

  module _ (g : Given) (n : ℕ) (path : List ℕ) (i : ℕ) (old : Steps) where
    abbrev pub Whole : statement.Stmt A → (k : ℕ) → (new : Steps) → Type 0
    Whole s k new = GrownTo g (Numbered tells n path base s) (λ o. stmt_front (known_of g o) (spot_stmt B E s base path) i) (n + stmt_locals s i) k old new

    pub local_put : (f : Bool) (t : tree.TypeName A) (w : tree.Word A) (e : tree.Exp A) → Whole (statement.local m f t w e) n old
    unfolding spot_stmt spot_else spot_stmts
    local_put f t w e = record { number = omega arith; grown = λ o h. stays g old o }

    pub eval_put : (e : tree.Exp A) → Whole (statement.eval m e) n old
    unfolding spot_stmt spot_else spot_stmts
    eval_put e = record { number = omega arith; grown = λ o h. stays g old o }

    pub return_put : (e : Option (tree.Exp A)) → Whole (statement.return m e) n old
    unfolding spot_stmt spot_else spot_stmts
    return_put e = record { number = omega arith; grown = λ o h. stays g old o }

    pub empty_put : Whole (statement.empty m) n old
    unfolding spot_stmt spot_else spot_stmts
    empty_put = record { number = omega arith; grown = λ o h. stays g old o }

    pub branch_put : (e : tree.Exp A) (x y : Stmt A) (other : statement.Else A) (k : ℕ) (new : Steps) → x ≡ y
        → GrownTo g (Numbered tells n (path ++ 1 ∷ []) at (stmt_of x)) (λ o. branch_front (known_of g o) (spots tells (path ++ 0 ∷ []) at e) (spot_stmt B E (stmt_of x) at (path ++ 1 ∷ [])) i) (n + branch_locals (stmt_of x) i) k old new
        → Whole (statement.branch m e (stmt_of y) other) k new
    unfolding spot_stmt spot_else spot_stmts NumbersStmt NumbersElse NumbersStmts
    branch_put e x y other k new same h =
        let q = here (λ j. GrownTo g (Numbered tells n (path ++ 1 ∷ []) j (stmt_of y)) (λ o. branch_front (known_of g o) (spots tells (path ++ 0 ∷ []) j e) (spot_stmt B E (stmt_of y) j (path ++ 1 ∷ [])) i) (n + branch_locals (stmt_of y) i) k old new)
        (subst (λ (z : Stmt A). GrownTo g (Numbered tells n (path ++ 1 ∷ []) at (stmt_of z)) (λ o. branch_front (known_of g o) (spots tells (path ++ 0 ∷ []) at e) (spot_stmt B E (stmt_of z) at (path ++ 1 ∷ [])) i) (n + branch_locals (stmt_of z) i) k old new) same h) in
        record { number = q.number; grown = λ o is. q.grown o is.0 }

    pub loop_put : (e : tree.Exp A) (x : statement.Stmt A) (new : Steps) → Grows g (λ o. suc (behind_first i (size (route.exp tells (path ++ 0 ∷ []) at e g o)))) old new → Whole (statement.loop m e x) n new
    unfolding spot_stmt spot_else spot_stmts
    loop_put e x new h =
        let q = here (λ j. Grows g (λ o. suc (behind_first i (size (route.exp tells (path ++ 0 ∷ []) j e g o)))) old new) h in
        record { number = omega arith; grown = λ o is. q o }

    pub block_put : (x y : List (Stmt A)) (k : ℕ) (new : Steps) → x ≡ y → GrownTo g (NumberedAll tells n path 0 at (stmts_of x)) (λ o. stmts_front (known_of g o) (spot_stmts B E (stmts_of x) at path 0) i) (n + locals_up_to (stmts_of x) i) k old new
        → Whole (statement.block m (stmts_of y)) k new
    unfolding spot_stmt spot_else spot_stmts NumbersStmt NumbersElse NumbersStmts
    block_put x y k new same h =
        let q = here (λ j. GrownTo g (NumberedAll tells n path 0 j (stmts_of y)) (λ o. stmts_front (known_of g o) (spot_stmts B E (stmts_of y) j path 0) i) (n + locals_up_to (stmts_of y) i) k old new)
        (subst (λ (z : List (Stmt A)). GrownTo g (NumberedAll tells n path 0 at (stmts_of z)) (λ o. stmts_front (known_of g o) (spot_stmts B E (stmts_of z) at path 0) i) (n + locals_up_to (stmts_of z) i) k old new) same h) in
        record { number = q.number; grown = λ o is. q.grown o is }

    -- of what stands in front in a monitor
    abbrev pub SyncPut : (at : ℕ) → tree.Exp A → List (Stmt A) → (k : ℕ) → (new : Steps) → Type 0
    SyncPut at e xs k new = GrownTo g (NumberedAll tells n path 1 at (stmts_of xs))
        (λ o. behind_first i (size (route.exp tells (path ++ 0 ∷ []) at e g o) + (size (list.lock_check tells (path ++ 0 ∷ []) at e g o) + (1 + stmts_front (known_of g o) (spot_stmts B E (stmts_of xs) at path 1) (pred i)))))
        (n + locals_up_to (stmts_of xs) (pred i)) k old new

    pub sync_put : (e : tree.Exp A) (x y : List (Stmt A)) (k : ℕ) (new : Steps) → x ≡ y → SyncPut at e x k new → Whole (statement.sync m e (stmts_of y)) k new
    unfolding spot_stmt spot_else spot_stmts NumbersStmt NumbersElse NumbersStmts
    sync_put e x y k new same h =
        let q = here (λ j. SyncPut j e y k new) (subst (λ (z : List (Stmt A)). SyncPut at e z k new) same h) in
        record { number = q.number; grown = λ o is. q.grown o is }
