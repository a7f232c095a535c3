-- What holds behind the declaration of a local, where the local is named.
use Rattle.std.specs.Prelude.{◌≡◌, ℕ, ◌<◌, Bool, List, Some, slice_get}
use Rattle.jr_text.specs.declared.spans.Span.{Span}
use Rattle.jr_ast.specs.Tree as tree
use Rattle.jr_ast.specs.StatementTree as statement
use Rattle.jr_ast.specs.MemberTree as syntax
use Rattle.jr_table.specs.Decls.{MemberKey, LocalKey}
use Rattle.jr_table.specs.Scope.{FindsLocal}
use Rattle.jr_table.specs.Context.{Local, scope_of}
use Rattle.jr_pieces.specs.Ways.{ListWay}
use Rattle.jr_pieces.specs.Standings.{Standing, behind, at_list}
use Rattle.jr_pieces.specs.Nearest.{nearest}
use Rattle.jr_bodies.specs.Bodies.{begins, entry}

-- ---- ways

-- a way of the list around an element that goes on into what stands behind it
pub record GoesOn {b : statement.Stmts Span} (p : Standing) {g : tree.Exp Span} (d : ListWay g b)
    {f : tree.Exp Span} (e : ListWay f (nearest begins p d).rest) : Type 0 where
  pub way : ListWay f b
  pub at : at_list begins p way
      ≡ at_list begins (behind begins (nearest begins p d).stmt (nearest begins p d).at) e

abbrev pub WaysGoOn : Type 0
WaysGoOn = (b : statement.Stmts Span) (p : Standing) (g : tree.Exp Span) (d : ListWay g b)
    (f : tree.Exp Span) (e : ListWay f (nearest begins p d).rest) → GoesOn p d e

-- ---- names

-- locals in scope have numbers below that of the next one
abbrev pub IsBelow : Standing → Type 0
IsBelow p = (i : ℕ) (l : Local) → slice_get p.context.locals i ≡ Some l → l.key.number < p.next

abbrev pub BodiesBeginBelow : Type 0
BodiesBeginBelow = (k : MemberKey) (is_static : Bool) (base : ℕ) (ps : List (syntax.Param Span))
    → IsBelow (entry k is_static base ps)

-- What is found in scope by a name, and is the local that the nearest element declares, has its
-- declared name.
abbrev pub LocalsHaveTheirNames : Type 0
LocalsHaveTheirNames = (b : statement.Stmts Span) (p : Standing) → IsBelow p → (g : tree.Exp Span)
    (d : ListWay g b) (mark : Span) (is_final : Bool) (type : tree.TypeName Span)
    (word : tree.Word Span) → (nearest begins p d).stmt ≡ statement.local mark is_final type word g
    → (f : tree.Exp Span) (e : ListWay f (nearest begins p d).rest) (name : List ℕ) (k : LocalKey)
    → k.number ≡ (nearest begins p d).at.next
    → FindsLocal (scope_of (at_list begins
    (behind begins (nearest begins p d).stmt (nearest begins p d).at) e).context).locals name k
    → word.text ≡ name
