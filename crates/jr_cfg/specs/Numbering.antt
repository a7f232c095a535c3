-- The locals that statements declare have numbers in text order, from one on.
use Rattle.std.specs.Prelude.{◌≡◌, ℕ, ◌+◌, suc, List}
use Rattle.jr_ast.specs.StatementTree as statement
use Rattle.jr_table.specs.Context.{locals_in}
use Rattle.jr_cover.specs.Spots.{Spot, spot, onto}

module _ {A : Type 0} (begins ends : A → ℕ → ℕ) (number : Spot → ℕ) where
  unfoldable mutual
    -- n: the number of the first; path: the way to the statement
    pub NumbersStmt : (n : ℕ) → statement.Stmt A → (base : ℕ) → (path : List ℕ) → Type 0
    NumbersStmt n (statement.local m f t w e) base p =
        number (spot begins ends w.mark (begins m base) (onto p 1)) ≡ n
    NumbersStmt n (statement.eval m e) base p = Unit {0}
    NumbersStmt n (statement.branch m e s other) base p =
        NumbersStmt n s (begins m base) (onto p 1)
        × NumbersElse (n + locals_in s) other (begins m base) (onto p 2)
    NumbersStmt n (statement.loop m e s) base p = NumbersStmt n s (begins m base) (onto p 1)
    NumbersStmt n (statement.return m e) base p = Unit {0}
    NumbersStmt n (statement.block m body) base p = NumbersStmts n body (begins m base) p 0
    NumbersStmt n (statement.sync m e body) base p = NumbersStmts n body (begins m base) p 1
    NumbersStmt n (statement.empty m) base p = Unit {0}

    pub NumbersElse : (n : ℕ) → statement.Else A → (base : ℕ) → (path : List ℕ) → Type 0
    NumbersElse n statement.no_else base p = Unit {0}
    NumbersElse n (statement.otherwise s) base p = NumbersStmt n s base p

    -- i: the number of the first of them among the parts of their parent
    pub NumbersStmts : (n : ℕ) → statement.Stmts A → (base : ℕ) → (path : List ℕ) → (i : ℕ)
        → Type 0
    NumbersStmts n statement.end base p i = Unit {0}
    NumbersStmts n (statement.more s ss) base p i =
        NumbersStmt n s base (onto p i) × NumbersStmts (n + locals_in s) ss base p (suc i)
