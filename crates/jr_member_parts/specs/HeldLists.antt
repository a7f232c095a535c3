-- Where the rest of a list of statements stands in a body: the ways to it, a constructor for each
-- step, and what is known there. A piece is the first statements of such a rest.
use Rattle.std.specs.Prelude.{ℕ, zero, suc, ◌+◌}
use Rattle.jr_ast.specs.Tree as tree
use Rattle.jr_ast.specs.StatementTree as statement
use Rattle.jr_table.specs.Context.{locals_in}
use Rattle.jr_pieces.specs.Standings.{Standing, inside, behind, in_other}

mutual
  -- from a statement
  pub data StmtHolds {A : Type 0} (held : statement.Stmts A) : statement.Stmt A → Type 0 where
    in_then : (m : A) (c : tree.Exp A) (s : statement.Stmt A) (o : statement.Else A)
        → StmtHolds held s → StmtHolds held (statement.branch m c s o)
    in_else : (m : A) (c : tree.Exp A) (s o : statement.Stmt A) → StmtHolds held o
        → StmtHolds held (statement.branch m c s (statement.otherwise o))
    in_body : (m : A) (c : tree.Exp A) (s : statement.Stmt A) → StmtHolds held s
        → StmtHolds held (statement.loop m c s)
    in_block : (m : A) (b : statement.Stmts A) → ListHolds held b
        → StmtHolds held (statement.block m b)
    in_locked : (m : A) (e : tree.Exp A) (b : statement.Stmts A) → ListHolds held b
        → StmtHolds held (statement.sync m e b)

  -- from a list
  pub data ListHolds {A : Type 0} (held : statement.Stmts A) : statement.Stmts A → Type 0 where
    here : ListHolds held held
    within : (s : statement.Stmt A) (ss : statement.Stmts A) → StmtHolds held s
        → ListHolds held (statement.more s ss)
    later : (s : statement.Stmt A) (ss : statement.Stmts A) → ListHolds held ss
        → ListHolds held (statement.more s ss)

-- what is known there
module _ {A : Type 0} (begins : A → ℕ → ℕ) {held : statement.Stmts A} where
  abbrev mutual
    pub held_in : {s : statement.Stmt A} → Standing → StmtHolds held s → Standing
    held_in p (in_then m c s o h) = held_in (inside begins m p) h
    held_in p (in_else m c s o h) = held_in (in_other begins m s p) h
    held_in p (in_body m c s h) = held_in (inside begins m p) h
    held_in p (in_block m b h) = held_at (inside begins m p) h
    held_in p (in_locked m e b h) = held_at (inside begins m p) h

    pub held_at : {b : statement.Stmts A} → Standing → ListHolds held b → Standing
    held_at p here = p
    held_at p (within s ss h) = held_in p h
    held_at p (later s ss h) = held_at (behind begins s p) h

-- what is known behind all statements of a list
abbrev pub behind_all : {A : Type 0} → (begins : A → ℕ → ℕ) → statement.Stmts A → Standing → Standing
behind_all begins statement.end p = p
behind_all begins (statement.more s ss) p = behind_all begins ss (behind begins s p)

-- ---- the first statements of a list, and the others

abbrev pub first_of : {A : Type 0} → (count : ℕ) → statement.Stmts A → statement.Stmts A
first_of zero b = statement.end
first_of (suc n) statement.end = statement.end
first_of (suc n) (statement.more s ss) = statement.more s (first_of n ss)

abbrev pub behind_first : {A : Type 0} → (count : ℕ) → statement.Stmts A → statement.Stmts A
behind_first zero b = b
behind_first (suc n) statement.end = statement.end
behind_first (suc n) (statement.more s ss) = behind_first n ss

abbrev pub locals_in_list : {A : Type 0} → statement.Stmts A → ℕ
locals_in_list statement.end = 0
locals_in_list (statement.more s ss) = locals_in s + locals_in_list ss
