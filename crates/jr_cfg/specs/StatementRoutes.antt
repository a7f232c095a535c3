-- The ways of statements, where marks are spots, and what a walk over them has come to.
use Rattle.std.specs.Prelude.{◌≡◌, ℕ, ◌+◌, List, [], ◌∷◌, ◌++◌, Option, Some, None}
use Rattle.jr_text.specs.declared.spans.Span.{Span}
use Rattle.jr_ast.specs.Tree as tree
use Rattle.jr_ast.specs.StatementTree as statement
use Rattle.jr_ast.specs.View.{stmt_of}
use Rattle.jr_table.specs.Context.{locals_in, locals_in_else}
use Rattle.jr_bind_expr.specs.Fits.{FitsStmt}
use Rattle.jr_cover.specs.Ways as way
use Rattle.jr_cover.specs.Sites.{What, Site, unless, stmt_way, else_way, stmts_way}
use Rattle.jr_cover.specs.Spots.{spot_stmt, spot_else, spot_stmts}
use Rattle.jr_code.specs.RunKeys.{RunKeys}
use Rattle.jr_cfg.specs.declared.statements.Ending.{Ending}
use Rattle.jr_cfg.specs.declared.statements.Ending.TheVariants as ending
use Rattle.jr_cfg.specs.declared.statements.Last.{Last}
use Rattle.jr_cfg.specs.declared.statements.Reached.{Reached}
use Rattle.jr_cfg.specs.declared.statements.Reached.TheVariants as reached
use Rattle.jr_expr_sites.specs.Steps.{Step, steps_of}
use Rattle.jr_expr_sites.specs.Steps as step
use Rattle.jr_expr_sites.specs.StepView.{steps_in}
use Rattle.jr_expr_sites.specs.KnownFacts.{Given, Others, known_of, place, is_never_null}
use Rattle.jr_cfg.specs.Numbering.{NumbersStmt, NumbersElse, NumbersStmts}
use Rattle.jr_expr_sites.specs.Routes.{Route, Steps, begins_by, ends_by, spots, exp, done, seq}

-- what is put behind the statement that stands last in another
abbrev pub ending_steps : Ending → List (Step (Site RunKeys))
ending_steps ending.Yes = step.pass ∷ step.fork ∷ step.row ∷ []
ending_steps ending.No = step.fork ∷ step.row ∷ []
ending_steps ending.Turn = step.turns ∷ []

abbrev pub onto : List Ending → List (Step (Site RunKeys)) → List (Step (Site RunKeys))
onto [] l = l
onto (e ∷ es) l = onto es (ending_steps e ++ l)

-- the last stands in front
abbrev pub endings_steps : List Ending → List (Step (Site RunKeys))
endings_steps es = onto es []

-- Steps of a way were put, where what else is known is so; the next local has a number.
pub record Passed (g : Given) (IsSo : Others → Type 0) (r : Route) (behind k : ℕ)
    (old new : Steps) : Type 0 where
  pub number : k ≡ behind
  pub walked : (o : Others) → IsSo o
      → steps_in g.member new ≡ steps_in g.member old ++ steps_of (r g o)

-- The steps of a way have been written behind those that were there, where what else is known is so.
abbrev pub WalkedSo : Given → (IsSo : Others → Type 0) → Route → (old new : Steps) → Type 0
WalkedSo g IsSo r old new = (o : Others) → IsSo o
    → steps_in g.member new ≡ steps_in g.member old ++ steps_of (r g o)

module _ {A : Type 0} (tells : A → ℕ → Span) where
  abbrev pub stmt : (path : List ℕ) → (base : ℕ) → statement.Stmt A → Route
  stmt path base s g o =
      stmt_way (known_of g o) (spot_stmt (begins_by tells) (ends_by tells) s base path)

  abbrev pub else_part : (path : List ℕ) → (at : ℕ) → statement.Else A → Route
  else_part path at s g o =
      else_way (known_of g o) (spot_else (begins_by tells) (ends_by tells) s at path)

  -- first: the number of the first of them
  abbrev pub stmts : (path : List ℕ) → (first : ℕ) → (at : ℕ) → statement.Stmts A → Route
  stmts path first at ss g o =
      stmts_way (known_of g o) (spot_stmts (begins_by tells) (ends_by tells) ss at path first)

  -- locals that it declares have the numbers from n on
  abbrev pub Numbered : (n : ℕ) → (path : List ℕ) → (base : ℕ) → statement.Stmt A → Others → Type 0
  Numbered n path base s o = NumbersStmt (begins_by tells) (ends_by tells) o.number n s base path

  abbrev pub NumberedElse : (n : ℕ) → (path : List ℕ) → (at : ℕ) → statement.Else A → Others
      → Type 0
  NumberedElse n path at s o =
      NumbersElse (begins_by tells) (ends_by tells) o.number n s at path

  abbrev pub NumberedAll : (n : ℕ) → (path : List ℕ) → (first : ℕ) → (at : ℕ) → statement.Stmts A
      → Others → Type 0
  NumberedAll n path first at ss o =
      NumbersStmts (begins_by tells) (ends_by tells) o.number n ss at path first

  -- ---- kinds of statements, by their parts

  abbrev pub local : (n : ℕ) → (path : List ℕ) → (at word : ℕ) → tree.Exp A → Route
  local n path at word e = seq (exp tells (path ++ 2 ∷ []) at e) (done (What.writes n) word)

  abbrev pub returned : (path : List ℕ) → (at : ℕ) → Option (tree.Exp A) → Route
  returned path at None g o = way.leave
  returned path at (Some e) g o = way.row (exp tells (path ++ 0 ∷ []) at e g o) way.leave

  abbrev pub lock_check : (path : List ℕ) → (at : ℕ) → tree.Exp A → Route
  lock_check path at e g o =
      unless (is_never_null g (spots tells path at e)) (done What.checks at g o)

  abbrev pub locked : (at last : ℕ) → Route → Route
  locked at last r g o = way.inside (record { at = place g at; what = What.enters }) (r g o)
      (record { at = place g last; what = What.exits })

  abbrev pub sync : (path : List ℕ) → (at last : ℕ) → tree.Exp A → statement.Stmts A → Route
  sync path at last e ss = seq (exp tells (path ++ 0 ∷ []) at e)
      (seq (lock_check (path ++ 0 ∷ []) at e) (locked at last (stmts path 1 at ss)))

  abbrev pub branch : (path : List ℕ) → (at : ℕ) → tree.Exp A → statement.Stmt A
      → statement.Else A → Route
  branch path at e x other g o = way.row (exp tells (path ++ 0 ∷ []) at e g o)
      (way.fork (stmt (path ++ 1 ∷ []) at x g o) (else_part (path ++ 2 ∷ []) at other g o))

  -- ---- the statement that stands last in another

  -- A statement is left of what was to be walked, with endings behind it.
  pub record Leaves (Fits : A → ℕ → Type 0) (g : Given) (behind : ℕ) (IsSo : Others → Type 0)
      (r : Route) (y : statement.Stmt A) (n : ℕ) (path : List ℕ) (at : ℕ)
      (ends : List (Step (Site RunKeys))) (old now : Steps) : Type 0 where
    pub count : n + locals_in y ≡ behind
    pub fits : FitsStmt (begins_by tells) Fits at y
    pub numbers : (o : Others) → IsSo o → Numbered n path at y o
    pub walked : (o : Others) → IsSo o
        → steps_in g.member now ++ (steps_of (stmt path at y g o) ++ ends)
        ≡ steps_in g.member old ++ steps_of (r g o)

  abbrev pub LeavesLast : (Fits : A → ℕ → Type 0) → Given → (path : List ℕ) → (behind : ℕ)
      → (IsSo : Others → Type 0) → Route → Last A → (old now : Steps) → Type 0
  LeavesLast Fits g path behind IsSo r l old now = Leaves Fits g behind IsSo r (stmt_of l.of.now)
      l.number (path ++ l.step ∷ []) l.at (ending_steps l.ending) old now

  -- the statement stands last in another
  abbrev pub IsLastOf : statement.Stmt A → statement.Stmt A → statement.Else A → Type 0
  IsLastOf y x statement.no_else = y ≡ x
  IsLastOf y x (statement.otherwise z) = y ≡ z

  abbrev pub IsLast : statement.Stmt A → statement.Stmt A → Type 0
  IsLast y (statement.branch m e x other) = IsLastOf y x other
  IsLast y (statement.loop m e x) = y ≡ x
  IsLast y _ = ⊥

  abbrev pub HeadWalked : (Fits : A → ℕ → Type 0) → Given → (n : ℕ) → (path : List ℕ)
      → (base : ℕ) → statement.Stmt A → Reached A → (old now : Steps) → Type 0
  HeadWalked Fits g n path base s (reached.Behind k) old now =
      Passed g (Numbered n path base s) (stmt path base s) (n + locals_in s) k old now
  HeadWalked Fits g n path base s (reached.To l) old now = IsLast (stmt_of l.of.now) s
      × LeavesLast Fits g path (n + locals_in s) (Numbered n path base s) (stmt path base s) l old now

  abbrev pub BranchWalked : (Fits : A → ℕ → Type 0) → Given → (n : ℕ) → (path : List ℕ)
      → (at : ℕ) → tree.Exp A → statement.Stmt A → statement.Else A → Last A → (old now : Steps)
      → Type 0
  BranchWalked Fits g n path at e x other l old now = IsLastOf (stmt_of l.of.now) x other
      × LeavesLast Fits g path (n + locals_in x + locals_in_else other)
      (λ o. Numbered n (path ++ 1 ∷ []) at x o
      × NumberedElse (n + locals_in x) (path ++ 2 ∷ []) at other o)
      (branch path at e x other) l old now
