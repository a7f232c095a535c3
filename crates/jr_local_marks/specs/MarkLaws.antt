-- Where the words of a body stand in its file's text.
use Rattle.std.specs.Prelude.{◌≡◌, ℕ, ◌+◌, Bool, length}
use Rattle.jr_text.specs.declared.spans.Span.{Span}
use Rattle.jr_ast.specs.Tree as tree
use Rattle.jr_ast.specs.StatementTree as statement
use Rattle.jr_grammar.specs.Layout.{itself}
use Rattle.jr_bind.specs.Programs.{Program, IsProgram}
use Rattle.jr_pieces.specs.Ways.{ListWay}
use Rattle.jr_pieces.specs.Nearest.{nearest}
use Rattle.jr_bodies.specs.Bodies.{begins, Body, HasBody}
use Rattle.jr_bodies.specs.BodyLaws.{IsNested}

-- a word has as many bytes as its text
abbrev pub IsWhole : tree.Word Span → Type 0
IsWhole w = w.mark.to ≡ w.mark.from + length w.text

-- a name of this span stands at its word
pub record IsSpelled (m : Span) (w : tree.Word Span) : Type 0 where
  pub mark : m ≡ w.mark
  pub whole : IsWhole w

-- so it is behind the nearest element of an expression, and of the word that the element declares
pub record IsSpelledBehind (b : Body) {g : tree.Exp Span} (d : ListWay g b.list) : Type 0 where
  pub names : (m : Span) (w : tree.Word Span)
      → ListWay (tree.name m w) (nearest begins b.at d).rest → IsSpelled m w
  pub declared : (mark : Span) (is_final : Bool) (type : tree.TypeName Span) (word : tree.Word Span)
      (init : tree.Exp Span)
      → (nearest begins b.at d).stmt ≡ statement.local mark is_final type word init → IsWhole word
  pub nested : IsNested (nearest begins b.at d).rest

abbrev pub BodiesAreSpelled : Type 0
BodiesAreSpelled = (p : Program Span) → IsProgram itself (λ m b. Unit {0}) p → (file : ℕ)
    (b : Body) → HasBody p file b → (g : tree.Exp Span) (d : ListWay g b.list)
    → IsSpelledBehind b d
