-- What the element of a list is to which a path leads: the nearest one of an expression.
use Rattle.std.specs.Prelude.{◌≡◌, ℕ, suc, List, ◌∷◌, ◌++◌, length}
use Rattle.jr_text.specs.declared.spans.Span.{Span}
use Rattle.jr_ast.specs.Tree as tree
use Rattle.jr_pieces.specs.Ways.{ListWay}
use Rattle.jr_pieces.specs.Nearest.{Element, nearest}
use Rattle.jr_pieces.specs.Finding.{list_path, stmt_path}
use Rattle.jr_bodies.specs.Bodies.{begins}
use Rattle.jr_bodies.specs.CodeView.{code_of}
use Rattle.jr_new_bodies.specs.declared.here.Here as raw_here
use Rattle.jr_new_bodies.specs.Known.{context_of}
use Rattle.jr_new_bodies.specs.Moves.{Goes}
use Rattle.jr_local_parts.specs.declared.bodies.WalkedBody as raw
use Rattle.jr_local_parts.specs.declared.elements.ElementPlace.{ElementPlace}
use Rattle.jr_local_parts.specs.Descending.{standing}

-- It is the element, and the steps in front lead to the node around its list.
pub record IsAtElement {f : tree.Exp Span} (x : Element f) (path : List ℕ) (old new : raw_here.Here)
    (at : ElementPlace) : Type 0 where
  pub goes : Goes old new x.at.context
  pub next : x.at.next ≡ at.next
  pub base : x.at.base ≡ at.base
  pub front : List ℕ
  pub path_is : path ≡ front ++ at.step ∷ stmt_path x.way
  pub depth : suc (length front) ≡ at.depth

-- Of each expression in the body to which the path leads, from where the body begins.
abbrev pub IsElementPlace : raw.WalkedBody → (path : List ℕ) → (next : ℕ)
    → (old new : raw_here.Here) → ElementPlace → Type 0
IsElementPlace w path n old new at = (f : tree.Exp Span)
    (way : ListWay f (code_of w.code).list) → path ≡ list_path (code_of w.code).front way
    → IsAtElement (nearest begins (standing (context_of old) n w.from) way) path old new at
