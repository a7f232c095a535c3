-- Two statements side by side, of one shape but for their references, written types, declared names
-- and spots. What is known at a place goes down on both sides, and so does the number of the next
-- local, as locals may be made or gone. jr_rewrite has the same without spots (`AlongStmt`).
use Rattle.std.specs.Prelude.{◌≡◌, ◌⊎◌, ℕ, ◌+◌, [], Option, Some, None}
use Rattle.jr_ast.specs.Tree as tree
use Rattle.jr_ast.specs.StatementTree as statement
use Rattle.jr_table.specs.Context.{Context, local_of, in_own, after, locals_in}
use Rattle.jr_table.specs.Binding.{Role, value}
use Rattle.jr_table.specs.Binding as role
use Rattle.jr_rewrite.specs.Rewritten.{Rewritten}
use Rattle.jr_rewrite.specs.Spots.{Asks, level, a_statement, Spotted, nowhere, spotted}
use Rattle.jr_kept_references.specs.AlongSpots.{PartAlong}

-- a list of statements has become what a spot makes of it, without a loss
abbrev pub ListSpotStands : {A : Type 0} → Spotted A → (next next' : ℕ) → Context → Context
    → (base : ℕ) → statement.Stmts A → (base' : ℕ) → statement.Stmts A → Type 0
ListSpotStands nowhere n z c d b xs i ys = ⊥
ListSpotStands {A} (spotted s) n z c d b xs i ys =
    (o : Rewritten (statement.Stmts A)) × s.list n c b xs o × (o.losses ≡ []) × (ys ≡ o.tree)

-- a list may be rewritten node by node
abbrev pub ListStays : {A : Type 0} → Spotted A → (next : ℕ) → Context → (base : ℕ)
    → statement.Stmts A → Type 0
ListStays nowhere n c b xs = Unit {0}
ListStays (spotted s) n c b xs = s.list_stays n c b xs

-- `P`, `T`, `Q`: of references, written types and spots among expressions (`AlongSpots`). `L`: the
-- same of a spot that is a list of statements.
module _ {A B : Type 0} (begins : A → ℕ → ℕ) (begins' : B → ℕ → ℕ)
    (P : Context → Context → Role → (base : ℕ) → tree.Exp A → (base' : ℕ) → tree.Exp B → Type 0)
    (T : Context → Context → (base : ℕ) → tree.TypeName A → (base' : ℕ) → tree.TypeName B → Type 0)
    (Q : Asks → Context → Context → Role → (base : ℕ) → tree.Exp A → (base' : ℕ) → tree.Exp B
    → Type 0)
    (L : (next next' : ℕ) → Context → Context → (base : ℕ) → statement.Stmts A → (base' : ℕ)
    → statement.Stmts B → Type 0) where
  abbrev pub MaybeBeside : Context → Context → (at at' : ℕ) → Option (tree.Exp A)
      → Option (tree.Exp B) → Type 0
  MaybeBeside c d a i None y = y ≡ None
  MaybeBeside c d a i (Some e) y = (x : tree.Exp B) × (y ≡ Some x)
      × PartAlong begins begins' P T Q (level 0) c d value a i e x

  unfoldable mutual
    -- the next locals have these numbers
    pub StmtBeside : (n z : ℕ) → Context → Context → (base base' : ℕ) → statement.Stmt A
        → statement.Stmt B → Type 0
    StmtBeside n z c d b i (statement.local m f t w e) y = (k : B) × (u : tree.TypeName B)
        × (v : tree.Word B) × (x : tree.Exp B) × (y ≡ statement.local k f u v x)
        × T c d (begins m b) t (begins' k i) u
        × PartAlong begins begins' P T Q (level 0) (in_own c (local_of c n f t w))
        (in_own d (local_of d z f u v)) value (begins m b) (begins' k i) e x
    StmtBeside n z c d b i (statement.eval m e) y = (k : B) × (x : tree.Exp B)
        × (y ≡ statement.eval k x)
        × PartAlong begins begins' P T Q a_statement c d role.statement (begins m b)
        (begins' k i) e x
    StmtBeside n z c d b i (statement.branch m e s other) y = (k : B) × (x : tree.Exp B)
        × (r : statement.Stmt B) × (o : statement.Else B) × (y ≡ statement.branch k x r o)
        × PartAlong begins begins' P T Q (level 0) c d value (begins m b) (begins' k i) e x
        × StmtBeside n z c d (begins m b) (begins' k i) s r
        × ElseBeside (n + locals_in s) (z + locals_in r) c d (begins m b) (begins' k i) other o
    StmtBeside n z c d b i (statement.loop m e s) y = (k : B) × (x : tree.Exp B)
        × (r : statement.Stmt B) × (y ≡ statement.loop k x r)
        × PartAlong begins begins' P T Q (level 0) c d value (begins m b) (begins' k i) e x
        × StmtBeside n z c d (begins m b) (begins' k i) s r
    StmtBeside n z c d b i (statement.return m e) y = (k : B) × (x : Option (tree.Exp B))
        × (y ≡ statement.return k x) × MaybeBeside c d (begins m b) (begins' k i) e x
    StmtBeside n z c d b i (statement.block m body) y = (k : B) × (r : statement.Stmts B)
        × (y ≡ statement.block k r) × (StmtsBeside n z c d (begins m b) (begins' k i) body r
        ⊎ L n z c d (begins m b) body (begins' k i) r)
    StmtBeside n z c d b i (statement.sync m e body) y = (k : B) × (x : tree.Exp B)
        × (r : statement.Stmts B) × (y ≡ statement.sync k x r)
        × PartAlong begins begins' P T Q (level 0) c d value (begins m b) (begins' k i) e x
        × (StmtsBeside n z c d (begins m b) (begins' k i) body r
        ⊎ L n z c d (begins m b) body (begins' k i) r)
    StmtBeside n z c d b i (statement.empty m) y = (k : B) × (y ≡ statement.empty k)

    pub ElseBeside : (n z : ℕ) → Context → Context → (base base' : ℕ) → statement.Else A
        → statement.Else B → Type 0
    ElseBeside n z c d b i statement.no_else y = y ≡ statement.no_else
    ElseBeside n z c d b i (statement.otherwise s) y = (r : statement.Stmt B)
        × (y ≡ statement.otherwise r) × StmtBeside n z c d b i s r

    pub StmtsBeside : (n z : ℕ) → Context → Context → (base base' : ℕ) → statement.Stmts A
        → statement.Stmts B → Type 0
    StmtsBeside n z c d b i statement.end ys = ys ≡ statement.end
    StmtsBeside n z c d b i (statement.more s ss) ys = (r : statement.Stmt B)
        × (rs : statement.Stmts B) × (ys ≡ statement.more r rs) × StmtBeside n z c d b i s r
        × (StmtsBeside (n + locals_in s) (z + locals_in r) (after n c s) (after z d r) b i ss rs
        ⊎ L (n + locals_in s) (z + locals_in r) (after n c s) (after z d r) b ss i rs)

  -- a list, or what a spot makes of it
  abbrev pub ListBeside : (n z : ℕ) → Context → Context → (base base' : ℕ) → statement.Stmts A
      → statement.Stmts B → Type 0
  ListBeside n z c d b i xs ys = StmtsBeside n z c d b i xs ys ⊎ L n z c d b xs i ys
