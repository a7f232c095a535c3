-- That one expression is selected, as a statement.
use Rattle.std.specs.Prelude.{◌≡◌, ℕ}
use Rattle.jr_text.specs.declared.spans.Span.{Span}
use Rattle.jr_ast.specs.Tree as tree
use Rattle.jr_grammar.specs.Layout.{itself}
use Rattle.jr_pieces.specs.Ways.{ListWay}
use Rattle.jr_bind.specs.Programs.{Program, IsProgram}
use Rattle.jr_local.specs.Bodies.{Body}
use Rattle.jr_local.specs.Selecting.{Selected, bar, taken}

-- an expression of a body, with the way to it
pub record Chosen : Type 0 where
  pub body : Body
  pub value : tree.Exp Span
  pub way : ListWay value body.list

module _ {p : Program Span} {file from to : ℕ} where
  abbrev pub chosen : Selected p file from to → Chosen
  chosen x = record { body = x.body; value = x.value; way = x.way }

  -- one expression, with one bar and the same names taken
  pub record AreOne (x y : Selected p file from to) : Type 0 where
    pub chosen_is : chosen x ≡ chosen y
    pub bar_is : bar x ≡ bar y
    pub taken_is : taken x ≡ taken y

-- In one written member a span selects one expression.
abbrev pub OneIsSelected : Type 0
OneIsSelected = (p : Program Span) → IsProgram itself (λ m b. Unit {0}) p → (file from to : ℕ)
    (x y : Selected p file from to) → x.has.number ≡ y.has.number → AreOne x y
