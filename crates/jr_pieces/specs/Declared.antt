-- The locals that are declared in a list of statements, nested lists included, in text order, each
-- with its number; and the first of some locals that has a name.
use Rattle.std.specs.Prelude.{ℕ, ◌+◌, List, [], ◌∷◌, ◌++◌, Option, Some, None, if◌then◌else◌}
use Rattle.jr_ast.specs.StatementTree as statement
use Rattle.jr_table.specs.SameKeys.{same_name}
use Rattle.jr_table.specs.Decls.{MemberKey, LocalKey}
use Rattle.jr_table.specs.Scope.{ScopeLocal}
use Rattle.jr_table.specs.Context.{locals_in}

-- of a member, from the number on
module _ {A : Type 0} (k : MemberKey) where
  abbrev mutual
    pub declared_in : (next : ℕ) → statement.Stmt A → List ScopeLocal
    declared_in n (statement.local m is_final t w e) =
        (record { name = w.text; key = record { member = k; number = n } }) ∷ []
    declared_in n (statement.eval m e) = []
    declared_in n (statement.branch m c s o) =
        declared_in n s ++ declared_behind (n + locals_in s) o
    declared_in n (statement.loop m c s) = declared_in n s
    declared_in n (statement.return m e) = []
    declared_in n (statement.block m b) = declared_in_list n b
    declared_in n (statement.sync m e b) = declared_in_list n b
    declared_in n (statement.empty m) = []

    -- behind `else`
    pub declared_behind : (next : ℕ) → statement.Else A → List ScopeLocal
    declared_behind n statement.no_else = []
    declared_behind n (statement.otherwise s) = declared_in n s

    pub declared_in_list : (next : ℕ) → statement.Stmts A → List ScopeLocal
    declared_in_list n statement.end = []
    declared_in_list n (statement.more s ss) =
        declared_in n s ++ declared_in_list (n + locals_in s) ss

abbrev pub first_named : List ℕ → List ScopeLocal → Option LocalKey
first_named name [] = None
first_named name (l ∷ ls) = if same_name l.name name then Some l.key else first_named name ls
