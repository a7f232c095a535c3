-- The first `return` of a statement, as a walk tells it that goes on with the statement that stands
-- last: exact.
use Rattle.std.specs.Prelude.{◌≡◌, ℕ, List, Option, Some, None, slice_get}
use Rattle.jr_text.specs.declared.spans.Span.{Span}
use Rattle.jr_ast.specs.Tree as tree
use Rattle.jr_ast.specs.StatementTree as statement
use Rattle.jr_grammar.specs.Layout.{itself}
use Rattle.jr_pieces.specs.Returns.{returns_in}

-- it is told, there is none, or it is that of this statement
pub data End : Type 0 where
  found : (span : Span) → End
  nothing : End
  last : (stmt : statement.Stmt Span) → End

-- a branch of `if` without `else`, or else what stands behind that; the body of a loop
abbrev pub IsLast : statement.Stmt Span → statement.Stmt Span → Type 0
IsLast t (statement.branch m c x statement.no_else) = t ≡ x
IsLast t (statement.branch m c x (statement.otherwise y)) = t ≡ y
IsLast t (statement.loop m c x) = t ≡ x
IsLast t (statement.local m is_final u w e) = ⊥
IsLast t (statement.eval m e) = ⊥
IsLast t (statement.return m e) = ⊥
IsLast t (statement.block m b) = ⊥
IsLast t (statement.sync m e b) = ⊥
IsLast t (statement.empty m) = ⊥

-- the first of a row, wherever the parent begins
abbrev pub first_in : (ℕ → List Span) → Option Span → Type 0
first_in spans o = (base : ℕ) → slice_get (spans base) 0 ≡ o

abbrev pub EndsSo : statement.Stmt Span → End → Type 0
EndsSo s (found x) = first_in (λ base. returns_in itself base s) (Some x)
EndsSo s nothing = first_in (λ base. returns_in itself base s) None
EndsSo s (last t) = ((base other : ℕ) → slice_get (returns_in itself base s) 0
    ≡ slice_get (returns_in itself other t) 0) × IsLast t s

-- the branches of an `if`
abbrev pub BranchesEndSo : statement.Stmt Span → statement.Else Span → End → Type 0
BranchesEndSo x o end =
    (m : Span) (c : tree.Exp Span) → EndsSo (statement.branch m c x o) end

-- of a statement of which this is the first
abbrev pub MayEnd : Option Span → End → Type 0
MayEnd o end = (s : statement.Stmt Span) → first_in (λ base. returns_in itself base s) o
    → EndsSo s end
