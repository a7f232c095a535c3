-- What a walk over a statement has come to where the statement that stands last in it is left.
use Rattle.std.specs.Prelude.{◌≡◌, ℕ, ◌+◌, List, [], ◌∷◌, ◌++◌}
use Rattle.jr_text.specs.declared.spans.Span.{Span}
use Rattle.jr_ast.specs.Tree as tree
use Rattle.jr_ast.specs.StatementTree as statement
use Rattle.jr_ast.specs.View.{stmt_of}
use Rattle.jr_table.specs.Context.{locals_in, locals_in_else}
use Rattle.jr_table.specs.Binding.{value}
use Rattle.jr_new_bodies.specs.declared.here.Here as raw
use Rattle.jr_new_bodies.specs.Known.{context_of}
use Rattle.jr_rewrite.specs.Spots.{level}
use Rattle.jr_new_bodies.specs.Walks.{PartGathers}
use Rattle.jr_new_bodies.specs.Effects.{Effect}
use Rattle.jr_new_bodies.specs.declared.statements.Last.{Last}
use Rattle.jr_new_bodies.specs.declared.statements.Reached.{Reached}
use Rattle.jr_new_bodies.specs.declared.statements.Reached.TheVariants as reached
use Rattle.jr_new_bodies.specs.Bodies.{StmtGathers, ElseGathers}
use Rattle.jr_new_bodies.specs.Ready.{StmtReady}
use Rattle.jr_new_bodies.specs.Moves.{Goes, StmtPasses}

-- the statement stands last in another
abbrev pub IsLastOf : {A : Type 0} → statement.Stmt A → statement.Stmt A → statement.Else A
    → Type 0
IsLastOf y x statement.no_else = y ≡ x
IsLastOf y x (statement.otherwise z) = y ≡ z

abbrev pub IsLast : {A : Type 0} → statement.Stmt A → statement.Stmt A → Type 0
IsLast y (statement.branch m e x other) = IsLastOf y x other
IsLast y (statement.loop m e x) = y ≡ x
IsLast y _ = ⊥

-- What was to be walked has so many locals and is to give something. A statement is left of it, in
-- whose front nothing stays in scope: what comes of it makes the whole.
pub record Leaves {A : Type 0} (tells : A → ℕ → Span) (Fits : A → ℕ → Type 0) (h : raw.Here)
    (behind : ℕ) (Gives : Effect → Type 0) (y : statement.Stmt A) (n : ℕ) (path : List ℕ) (at : ℕ)
    (i : raw.Here) (now : Effect) : Type 0 where
  pub goes : Goes h i (context_of h)
  pub count : n + locals_in y ≡ behind
  pub ready : StmtReady tells Fits i n path at y
  pub gives : (new : Effect) → StmtGathers tells i n at y now new → Gives new

module _ {A : Type 0} (tells : A → ℕ → Span) (Fits : A → ℕ → Type 0) where
  -- the statement that is left is a part of the node to which the path leads
  abbrev pub LeavesLast : raw.Here → (path : List ℕ) → (behind : ℕ) → (Effect → Type 0) → Last A
      → raw.Here → (now : Effect) → Type 0
  LeavesLast h path behind Gives l i now = Leaves tells Fits h behind Gives (stmt_of l.of.now)
      l.number (path ++ l.step ∷ []) l.at i now

  module _ (number : ℕ) (h : raw.Here) (path : List ℕ) (at : ℕ) where
    -- the parts of a condition that begins at `at`
    abbrev pub BranchPasses : tree.Exp A → statement.Stmt A → statement.Else A → Last A → raw.Here
        → (old now : Effect) → Type 0
    BranchPasses e x other l i old now = IsLastOf (stmt_of l.of.now) x other
        × LeavesLast h path (number + locals_in x + locals_in_else other)
        (λ new. (one : Effect) × (two : Effect) × PartGathers tells h (level 0) value at e old one
        × StmtGathers tells h number at x one two
        × ElseGathers tells h (number + locals_in x) at other two new) l i now

    -- a statement whose parent begins at `at`
    abbrev pub HeadPasses : statement.Stmt A → Reached A → raw.Here → (old now : Effect) → Type 0
    HeadPasses x (reached.Behind n) i old now = StmtPasses tells number h at x n i old now
    HeadPasses x (reached.To l) i old now = IsLast (stmt_of l.of.now) x
        × LeavesLast h path (number + locals_in x)
        (λ new. StmtGathers tells h number at x old new) l i now
