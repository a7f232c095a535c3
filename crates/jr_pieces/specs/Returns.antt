-- The `return` statements of a list, at any depth, by their spans, in text order.
use Rattle.std.specs.Prelude.{ℕ, List, [], ◌∷◌, ◌++◌}
use Rattle.jr_text.specs.declared.spans.Span.{Span}
use Rattle.jr_ast.specs.StatementTree as statement

-- the parent begins at base
module _ {A : Type 0} (tells : A → ℕ → Span) where
  abbrev mutual
    pub returns_in : (base : ℕ) → statement.Stmt A → List Span
    returns_in base (statement.local m is_final t w e) = []
    returns_in base (statement.eval m e) = []
    returns_in base (statement.branch m c s o) =
        returns_in (tells m base).from s ++ returns_behind (tells m base).from o
    returns_in base (statement.loop m c s) = returns_in (tells m base).from s
    returns_in base (statement.return m e) = tells m base ∷ []
    returns_in base (statement.block m b) = returns_in_list (tells m base).from b
    returns_in base (statement.sync m e b) = returns_in_list (tells m base).from b
    returns_in base (statement.empty m) = []

    -- behind `else`
    pub returns_behind : (base : ℕ) → statement.Else A → List Span
    returns_behind base statement.no_else = []
    returns_behind base (statement.otherwise s) = returns_in base s

    pub returns_in_list : (base : ℕ) → statement.Stmts A → List Span
    returns_in_list base statement.end = []
    returns_in_list base (statement.more s ss) = returns_in base s ++ returns_in_list base ss
