-- The resolved code of statements (JLS 14), as a relation. Contexts and the numbers of locals go
-- down as in binding.
use Rattle.std.specs.Prelude.{◌≡◌, ℕ, zero, suc, ◌+◌, List, [], ◌∷◌, Option, Some, None}
use Rattle.jr_ast.specs.Tree as tree
use Rattle.jr_ast.specs.StatementTree as statement
use Rattle.jr_runs.specs.Core as core
use Rattle.jr_table.specs.Rows.{Row}
use Rattle.jr_table.specs.Context.{Context, local_of, in_own, after, locals_in, locals_in_row}
use Rattle.jr_table.specs.Binding.{word_at}
use Rattle.jr_code.specs.RunKeys.{RunKeys, Place}
use Rattle.jr_code.specs.Coded.{Code, ExpCode}

-- so many numbers from this one on
unfoldable pub numbers : (from count : ℕ) → List ℕ
numbers n zero = []
numbers n (suc k) = n ∷ numbers (suc n) k

abbrev pub StatementCode : Type 0
StatementCode = core.Stmt RunKeys

abbrev pub ListCode : Type 0
ListCode = core.Stmts RunKeys

-- `ends m base`: the place of the last byte of a node with the mark
module _ {A : Type 0} (begins ends : A → ℕ → ℕ) (rows : List Row) where
  abbrev pub place_in : Context → ℕ → Place
  place_in c at = record { member = c.member; at = at }

  abbrev pub ReturnCode : Context → (base : ℕ) → Place → Option (tree.Exp A) → StatementCode
      → Type 0
  ReturnCode c b p None s = s ≡ core.return_nothing (Some p)
  ReturnCode c b p (Some e) s = (z : Code) × ExpCode begins rows c b e z
      × (s ≡ core.return (Some p) z)

  unfoldable mutual
    -- the next local has this number
    pub StmtCode : (number : ℕ) → Context → (base : ℕ) → statement.Stmt A → StatementCode → Type 0
    StmtCode n c b (statement.local m f t w e) s = (z : Code)
        × ExpCode begins rows (in_own c (local_of c n f t w)) (begins m b) e z
        × (s ≡ core.declare (Some (place_in c (word_at begins m b w))) n z)
    StmtCode n c b (statement.eval m e) s = (z : Code) × ExpCode begins rows c (begins m b) e z
        × (s ≡ core.eval (Some (place_in c (begins m b))) z)
    StmtCode n c b (statement.branch m e x other) s = (z : Code) × (y q : StatementCode)
        × ExpCode begins rows c (begins m b) e z × StmtCode n c (begins m b) x y
        × ElseCode (n + locals_in x) c (begins m b) other q
        × (s ≡ core.branch (Some (place_in c (begins m b))) z y q)
    StmtCode n c b (statement.loop m e x) s = (z : Code) × (y : StatementCode)
        × ExpCode begins rows c (begins m b) e z × StmtCode n c (begins m b) x y
        × (s ≡ core.loop (Some (place_in c (begins m b))) z y)
    StmtCode n c b (statement.return m e) s =
        ReturnCode c (begins m b) (place_in c (begins m b)) e s
    StmtCode n c b (statement.block m body) s = (z : ListCode)
        × StmtsCode n c (begins m b) body z
        × (s ≡ core.block (Some (place_in c (begins m b))) (numbers n (locals_in_row body)) z)
    -- entered at the word `synchronized`, and exited at the last brace
    StmtCode n c b (statement.sync m e body) s = (z : Code) × (y : ListCode)
        × ExpCode begins rows c (begins m b) e z × StmtsCode n c (begins m b) body y
        × (s ≡ core.sync (Some (place_in c (begins m b))) (Some (place_in c (ends m b))) z y)
    StmtCode n c b (statement.empty m) s = s ≡ core.empty (Some (place_in c (begins m b)))

    pub ElseCode : (number : ℕ) → Context → (base : ℕ) → statement.Else A → StatementCode → Type 0
    ElseCode n c b statement.no_else s = s ≡ core.empty None
    ElseCode n c b (statement.otherwise x) s = StmtCode n c b x s

    pub StmtsCode : (number : ℕ) → Context → (base : ℕ) → statement.Stmts A → ListCode → Type 0
    StmtsCode n c b statement.end ss = ss ≡ core.Stmts.end
    StmtsCode n c b (statement.more x xs) ss = (y : StatementCode) × (ys : ListCode)
        × StmtCode n c b x y × StmtsCode (n + locals_in x) (after n c x) b xs ys
        × (ss ≡ core.Stmts.more y ys)
