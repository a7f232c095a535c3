-- What walks over an expression that extract local selects, over its statement and over those behind
-- it rest on.
use Rattle.std.specs.Prelude.{◌≡◌, ℕ, List, ◌∷◌, ◌++◌, None, length}
use Rattle.jr_text.specs.declared.spans.Span.{Span}
use Rattle.jr_ast.specs.Tree as tree
use Rattle.jr_ast.specs.Marks.{exp_mark}
use Rattle.jr_grammar.specs.Layout.{itself}
use Rattle.jr_table.specs.Binding.{value}
use Rattle.jr_bind.specs.Programs.{Program, IsProgram}
use Rattle.jr_pieces.specs.Ways.{StmtWay}
use Rattle.jr_pieces.specs.Standings.{at_stmt}
use Rattle.jr_pieces.specs.Finding.{stmt_path, list_path}
use Rattle.jr_new_bodies.specs.Ready.{ExpReadyIn}
use Rattle.jr_local.specs.Bodies.{begins}
use Rattle.jr_local.specs.Selecting.{Selected, at_value, bar, element}
use Rattle.jr_local_ways.specs.ReadyWays.{ElementReady}
use Rattle.jr_local_walks.specs.Contexts.{IsLate, IsOwn, InOrder}
use Rattle.jr_local_walks.specs.Walked.{number, there, HasTypeRow}

module _ (p : Program Span) (file from to : ℕ) (name : List ℕ) (x : Selected p file from to) where
  -- so many locals are in scope at the statement
  abbrev pub depth : ℕ
  depth = length (there p file from to name x).locals

  abbrev pub path : List ℕ
  path = list_path x.body.front x.way

  pub record SelectedReady : Type 0 where
    pub typed : HasTypeRow p file from to name x
    -- at the statement, and in it where nothing bars the expression, locals are in order
    pub ordered : InOrder p.rows (there p file from to name x).member
        (number p file from to name x) depth
        (IsLate (there p file from to name x).member (number p file from to name x))
        (there p file from to name x)
    pub inside : bar x ≡ None → InOrder p.rows (there p file from to name x).member
        (number p file from to name x) depth
        (IsOwn (there p file from to name x).member (number p file from to name x))
        (at_value x).context
    -- no other expression of the statement has the span
    pub alone : (f : tree.Exp Span) (w : StmtWay f (element x).stmt)
        → exp_mark f ≡ exp_mark x.value
        → (f ≡ x.value) × ((at_stmt begins (element x).at w).context ≡ (at_value x).context)
    -- by the steps to the node around its list, and its number there
    pub element_ready : (front : List ℕ) (step : ℕ) → path ≡ front ++ step ∷ stmt_path (element x).way
        → ElementReady itself (λ m n. Unit {0}) p.rows x.body.bound x.body.at.base path (element x)
        front step
    pub piece : (base : ℕ) → ExpReadyIn itself (λ m n. Unit {0}) p.rows x.body.bound
        x.body.at.base (at_value x).context value path base x.value

abbrev pub SelectedAreReady : Type 0
SelectedAreReady = (p : Program Span) → IsProgram itself (λ m n. Unit {0}) p → (file from to : ℕ)
    (name : List ℕ) (x : Selected p file from to) → SelectedReady p file from to name x
