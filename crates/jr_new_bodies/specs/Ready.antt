-- What a walk over statements rests on: the places of their marks fit, nothing in them breaks a
-- rule, and binding knows each reference by its place and each type by its path.
use Rattle.std.specs.Prelude.{
  ◌≡◌,
  ◌↔◌,
  ℕ,
  ◌+◌,
  List,
  [],
  ◌∷◌,
  ◌++◌,
  Option,
  Some,
  None,
}
use Rattle.jr_text.specs.declared.spans.Span.{Span}
use Rattle.jr_ast.specs.Tree as tree
use Rattle.jr_ast.specs.StatementTree as statement
use Rattle.jr_table.specs.Keys.{Ty}
use Rattle.jr_table.specs.Decls.{Decl}
use Rattle.jr_table.specs.Rows.{Row}
use Rattle.jr_table.specs.Context.{Context, locals_in}
use Rattle.jr_table.specs.Binding.{Role, value, BindsItself}
use Rattle.jr_table.specs.Somewhere.{InStmt, InElse, InStmts}
use Rattle.jr_table.specs.TypesAt.{TypeInStmt, TypeInElse, TypeInStmts}
use Rattle.jr_table.specs.ExpressionRules.{ExpBreaks}
use Rattle.jr_table.specs.StatementRules.{StmtBreaks, ListBreaks, StmtBindsItself}
use Rattle.jr_table.specs.declared.rules.Rule.{Rule}
use Rattle.jr_expr_types.specs.Slots.{find_type}
use Rattle.jr_bind.specs.Bounds.{Bound}
use Rattle.jr_bind_expr.specs.Fits.{FitsExp, FitsStmt, FitsElse, FitsStmts}
use Rattle.jr_new_bodies.specs.declared.here.Here as raw
use Rattle.jr_new_bodies.specs.Known.{
  rows_of,
  context_of,
  found_in,
  SoundExp,
  RefersExpIn,
  TypesExpIn,
}

module _ {A : Type 0} (begins : A → ℕ → ℕ) (rows : List Row) where
  abbrev pub SoundStmt : (number : ℕ) → Context → (base : ℕ) → statement.Stmt A → Type 0
  SoundStmt n c base x = (at : ℕ) (r : Rule) → InStmt begins
      (λ d o b e. ExpBreaks begins rows d o b e at r)
      (λ i d b s. StmtBreaks begins rows i d b s at r) (λ b ss. ListBreaks begins b ss at r) n c
      base x → ⊥

  abbrev pub SoundElse : (number : ℕ) → Context → (base : ℕ) → statement.Else A → Type 0
  SoundElse n c base x = (at : ℕ) (r : Rule) → InElse begins
      (λ d o b e. ExpBreaks begins rows d o b e at r)
      (λ i d b s. StmtBreaks begins rows i d b s at r) (λ b ss. ListBreaks begins b ss at r) n c
      base x → ⊥

  abbrev pub SoundStmts : (number : ℕ) → Context → (base : ℕ) → statement.Stmts A → Type 0
  SoundStmts n c base xs = (at : ℕ) (r : Rule) → InStmts begins
      (λ d o b e. ExpBreaks begins rows d o b e at r)
      (λ i d b s. StmtBreaks begins rows i d b s at r) (λ b ss. ListBreaks begins b ss at r) n c
      base xs → ⊥

module _ {A : Type 0} (begins : A → ℕ → ℕ) (rows : List Row) (b : Bound) (from : ℕ) where
  abbrev pub RefersStmt : (number : ℕ) → Context → (base : ℕ) → statement.Stmt A → Type 0
  RefersStmt n c base x = (at : ℕ) (d : Decl) → InStmt begins
      (λ c o b e. BindsItself begins rows c o b e at d)
      (λ i c b s. StmtBindsItself begins rows i c b s at d) (λ b ss. ⊥) n c base x
      → found_in b from at ≡ Some d

  abbrev pub RefersElse : (number : ℕ) → Context → (base : ℕ) → statement.Else A → Type 0
  RefersElse n c base x = (at : ℕ) (d : Decl) → InElse begins
      (λ c o b e. BindsItself begins rows c o b e at d)
      (λ i c b s. StmtBindsItself begins rows i c b s at d) (λ b ss. ⊥) n c base x
      → found_in b from at ≡ Some d

  abbrev pub RefersStmts : (number : ℕ) → Context → (base : ℕ) → statement.Stmts A → Type 0
  RefersStmts n c base xs = (at : ℕ) (d : Decl) → InStmts begins
      (λ c o b e. BindsItself begins rows c o b e at d)
      (λ i c b s. StmtBindsItself begins rows i c b s at d) (λ b ss. ⊥) n c base xs
      → found_in b from at ≡ Some d

module _ {A : Type 0} (rows : List Row) (b : Bound) where
  abbrev pub TypesStmt : (number : ℕ) → Context → (path : List ℕ) → statement.Stmt A → Type 0
  TypesStmt n c path x = (q : List ℕ) (t : Ty)
      → (find_type b.types (path ++ q) ≡ Some t) ↔ TypeInStmt rows n c x q t

  abbrev pub TypesElse : (number : ℕ) → Context → (path : List ℕ) → statement.Else A → Type 0
  TypesElse n c path x = (q : List ℕ) (t : Ty)
      → (find_type b.types (path ++ q) ≡ Some t) ↔ TypeInElse rows n c x q t

  -- statements, which are parts of the node from a number on
  abbrev pub TypesStmts : (number : ℕ) → Context → (path : List ℕ) → (first : ℕ)
      → statement.Stmts A → Type 0
  TypesStmts n c path first xs = (k step : ℕ) → k ≡ first + step → (q : List ℕ) (t : Ty)
      → (find_type b.types (path ++ k ∷ q) ≡ Some t) ↔ TypeInStmts rows n c xs step q t

module _ {A : Type 0} (tells : A → ℕ → Span) (Fits : A → ℕ → Type 0) where
  abbrev pub begins : A → ℕ → ℕ
  begins m b = (tells m b).from

  module _ (rows : List Row) (b : Bound) (from : ℕ) where
    abbrev pub ExpReadyIn : Context → Role → (path : List ℕ) → (base : ℕ) → tree.Exp A → Type 0
    ExpReadyIn c role path base e = FitsExp begins Fits base e × SoundExp begins rows c role base e
        × RefersExpIn begins rows b from c role base e × TypesExpIn rows b c path e

    abbrev pub StmtReadyIn : (number : ℕ) → Context → (path : List ℕ) → (base : ℕ)
        → statement.Stmt A → Type 0
    StmtReadyIn n c path base x = FitsStmt begins Fits base x × SoundStmt begins rows n c base x
        × RefersStmt begins rows b from n c base x × TypesStmt rows b n c path x

    abbrev pub StmtsReadyIn : (number : ℕ) → Context → (path : List ℕ) → (first base : ℕ)
        → statement.Stmts A → Type 0
    StmtsReadyIn n c path first base xs = FitsStmts begins Fits base xs
        × SoundStmts begins rows n c base xs × RefersStmts begins rows b from n c base xs
        × TypesStmts rows b n c path first xs

  module _ (h : raw.Here) where
    -- an expression, if one is written, is the part of this number
    abbrev pub MaybeReady : (path : List ℕ) → (step at : ℕ) → Option (tree.Exp A) → Type 0
    MaybeReady path step at None = Unit {0}
    MaybeReady path step at (Some e) = ExpReadyIn (rows_of h) h.bound.now h.from (context_of h)
        value (path ++ step ∷ []) at e

    abbrev pub StmtReady : (number : ℕ) → (path : List ℕ) → (base : ℕ) → statement.Stmt A → Type 0
    StmtReady n path base x =
        StmtReadyIn (rows_of h) h.bound.now h.from n (context_of h) path base x

    abbrev pub ElseReady : (number : ℕ) → (path : List ℕ) → (base : ℕ) → statement.Else A → Type 0
    ElseReady n path base x = FitsElse begins Fits base x
        × SoundElse begins (rows_of h) n (context_of h) base x
        × RefersElse begins (rows_of h) h.bound.now h.from n (context_of h) base x
        × TypesElse (rows_of h) h.bound.now n (context_of h) path x

    abbrev pub StmtsReady : (number : ℕ) → (path : List ℕ) → (first base : ℕ)
        → statement.Stmts A → Type 0
    StmtsReady n path first base xs =
        StmtsReadyIn (rows_of h) h.bound.now h.from n (context_of h) path first base xs

    -- the parts of a statement that begins at `at`
    abbrev pub BranchReady : (number : ℕ) → (path : List ℕ) → (at : ℕ) → tree.Exp A
        → statement.Stmt A → statement.Else A → Type 0
    BranchReady n path at e x other =
        ExpReadyIn (rows_of h) h.bound.now h.from (context_of h) value (path ++ 0 ∷ []) at e
        × (StmtReady n (path ++ 1 ∷ []) at x
        × ElseReady (n + locals_in x) (path ++ 2 ∷ []) at other)

    abbrev pub TurnsReady : (number : ℕ) → (path : List ℕ) → (at : ℕ) → tree.Exp A
        → statement.Stmt A → Type 0
    TurnsReady n path at e x =
        ExpReadyIn (rows_of h) h.bound.now h.from (context_of h) value (path ++ 0 ∷ []) at e
        × StmtReady n (path ++ 1 ∷ []) at x

    abbrev pub SyncReady : (number : ℕ) → (path : List ℕ) → (at : ℕ) → tree.Exp A
        → statement.Stmts A → Type 0
    SyncReady n path at e body =
        ExpReadyIn (rows_of h) h.bound.now h.from (context_of h) value (path ++ 0 ∷ []) at e
        × StmtsReady n path 1 at body
