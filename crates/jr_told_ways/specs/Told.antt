-- What tells a way into a list of statements, as statements.
use Rattle.std.specs.Prelude.{◌≡◌, ℕ}
use Rattle.jr_text.specs.declared.spans.Span.{Span}
use Rattle.jr_ast.specs.Tree as tree
use Rattle.jr_ast.specs.StatementTree as statement
use Rattle.jr_pieces.specs.Ways.{ListWay}
use Rattle.jr_pieces.specs.Finding.{list_end, list_path}
use Rattle.jr_pieces.specs.Nesting.{ListNested}

-- an expression to which there is such a way, with the way
pub record In {A : Type 0} (Way : tree.Exp A → Type 0) : Type 0 where
  pub value : tree.Exp A
  pub way : Way value

-- two ways into a list are one
abbrev pub IsOneWay : {A : Type 0} {b : statement.Stmts A} {f g : tree.Exp A} → ListWay f b
    → ListWay g b → Type 0
IsOneWay {A} {b} {f} {g} d e =
    let x : In (λ (h : tree.Exp A). ListWay h b) = record { value = f; way = d } in
    x ≡ record { value = g; way = e }

abbrev pub PathsTellWays : Type 0 → Type 0
PathsTellWays A = (b : statement.Stmts A) (first : ℕ) (f g : tree.Exp A) (d : ListWay f b)
    (e : ListWay g b) → list_path first d ≡ list_path first e → IsOneWay d e

abbrev pub OneWayHasASpan : Type 0 → Type 0
OneWayHasASpan A = (tells : A → ℕ → Span) (whole : Span) (lo : ℕ) (b : statement.Stmts A)
    → ListNested tells whole lo b → (f g : tree.Exp A) (d : ListWay f b) (e : ListWay g b)
    → list_end tells whole.from d ≡ list_end tells whole.from e → IsOneWay d e
