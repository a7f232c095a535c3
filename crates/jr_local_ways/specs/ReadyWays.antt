-- Where a list is ready to be walked, so are the nearest element of an expression in it, what stands
-- behind that, and the expression.
use Rattle.std.specs.Prelude.{◌≡◌, ℕ, ◌+◌, List, [], ◌∷◌, ◌++◌}
use Rattle.jr_text.specs.declared.spans.Span.{Span}
use Rattle.jr_ast.specs.Tree as tree
use Rattle.jr_ast.specs.StatementTree as statement
use Rattle.jr_grammar.specs.Layout.{itself}
use Rattle.jr_table.specs.Keys.{Ty}
use Rattle.jr_table.specs.Rows.{Row}
use Rattle.jr_table.specs.Conditions.{AreRows}
use Rattle.jr_table.specs.Binding.{value, HasType}
use Rattle.jr_members.specs.Fitting.{begins_by}
use Rattle.jr_bind.specs.Bounds.{Bound}
use Rattle.jr_pieces.specs.Ways.{ListWay}
use Rattle.jr_pieces.specs.Standings.{Standing, behind, at_list}
use Rattle.jr_pieces.specs.Finding.{stmt_path, list_path}
use Rattle.jr_pieces.specs.Nearest.{Element, nearest}
use Rattle.jr_pieces.specs.Uses.{valued, list_use}
use Rattle.jr_way_places.specs.PlacedWays.{list_role}
use Rattle.jr_new_bodies.specs.Ready.{ExpReadyIn, StmtReadyIn, StmtsReadyIn}

-- the member begins at `from`, and this is bound of it
module _ {A : Type 0} (tells : A → ℕ → Span) (Fits : A → ℕ → Type 0) (rows : List Row) (b : Bound)
    (from : ℕ) where
  -- at a place: a statement to which the path leads, and a list whose first element has the number
  -- among the parts of the node to which the path leads
  abbrev pub StmtReadyAt : Standing → (path : List ℕ) → statement.Stmt A → Type 0
  StmtReadyAt p path x =
      StmtReadyIn tells Fits rows b from p.next p.context path p.base x

  abbrev pub ListReadyAt : Standing → (path : List ℕ) → (first : ℕ) → statement.Stmts A → Type 0
  ListReadyAt p path first xs =
      StmtsReadyIn tells Fits rows b from p.next p.context path first p.base xs

  -- The path to the expression goes through the node around the list of its nearest element, and
  -- through the number that this has there.
  pub record ElementReady (path : List ℕ) {f : tree.Exp A} (x : Element f) (front : List ℕ)
      (step : ℕ) : Type 0 where
    pub leads : path ≡ front ++ step ∷ stmt_path x.way
    pub stmt : StmtReadyAt x.at (front ++ step ∷ []) x.stmt
    pub rest : ListReadyAt (behind (begins_by tells) x.stmt x.at) front (step + 1) x.rest

  pub record WayReady (p : Standing) (path : List ℕ) (first : ℕ) {xs : statement.Stmts A}
      {f : tree.Exp A} (way : ListWay f xs) : Type 0 where
    pub element : (front : List ℕ) (step : ℕ)
        → path ++ list_path first way
        ≡ front ++ step ∷ stmt_path (nearest (begins_by tells) p way).way
        → ElementReady (path ++ list_path first way) (nearest (begins_by tells) p way) front step
    pub expression : ExpReadyIn tells Fits rows b from (at_list (begins_by tells) p way).context
        (list_role way) (path ++ list_path first way) (at_list (begins_by tells) p way).base f

-- in trees whose marks are spans
abbrev pub WaysAreReady : Type 0
WaysAreReady = (rows : List Row) (b : Bound) (from : ℕ) (p : Standing) (path : List ℕ) (first : ℕ)
    (xs : statement.Stmts Span)
    → ListReadyAt itself (λ m n. Unit {0}) rows b from p path first xs → (f : tree.Exp Span)
    (way : ListWay f xs) → WayReady itself (λ m n. Unit {0}) rows b from p path first way

-- ---- values

-- What is used for its value and has a type may be walked as a value, wherever its parent is told to
-- begin.
abbrev pub ValuesAreReady : Type 0
ValuesAreReady = (rows : List Row) → AreRows rows → (b : Bound) (from : ℕ) (p : Standing)
    (path : List ℕ) (first : ℕ) (xs : statement.Stmts Span)
    → ListReadyAt itself (λ m n. Unit {0}) rows b from p path first xs → (f : tree.Exp Span)
    (way : ListWay f xs) → list_use way ≡ valued → (t : Ty)
    → HasType rows (at_list (begins_by itself) p way).context f t → (base : ℕ)
    → ExpReadyIn itself (λ m n. Unit {0}) rows b from (at_list (begins_by itself) p way).context
    value (path ++ list_path first way) base f
