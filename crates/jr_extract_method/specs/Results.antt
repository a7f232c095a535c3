-- What an extracted piece gives back: nothing, a local that is used behind it, or a value.
use Rattle.std.specs.Prelude.{◌≡◌, ℕ, Bool, List, Contains}
use Rattle.jr_text.specs.declared.spans.Span.{Span}
use Rattle.jr_ast.specs.Tree as tree
use Rattle.jr_ast.specs.StatementTree as statement
use Rattle.jr_table.specs.Keys.{Ty}
use Rattle.jr_table.specs.Context.{Context, IsLocalType, local_type, scope_of}
use Rattle.jr_table.specs.Somewhere.{InList}
use Rattle.jr_bind.specs.Programs.{Program}
use Rattle.jr_bodies.specs.Bodies.{begins}
use Rattle.jr_extract_method.specs.Selecting.{
  Statements,
  at_first,
  moved,
  Piece,
  of_statements,
  of_value,
  Outside,
  number_of,
  IsResultOf,
}

-- a local that a statement of the piece declares, with what is known there and its type
pub record Inside : Type 0 where
  pub number : ℕ
  pub is_final : Bool
  pub type : tree.TypeName Span
  pub word : tree.Word Span
  pub context : Context
  pub base : ℕ
  pub means : Ty

module _ {p : Program Span} {file from to : ℕ} (x : Statements p file from to) where
  abbrev pub Declares : Inside → (number : ℕ) → Context → (base : ℕ) → statement.Stmt Span → Type 0
  Declares i n c b (statement.local m f t w e) = (n ≡ i.number) × (f ≡ i.is_final)
      × (t ≡ i.type) × (w ≡ i.word) × (c ≡ i.context) × (begins m b ≡ i.base)
  Declares i n c b _ = ⊥

  abbrev pub IsInside : Inside → Type 0
  IsInside i = InList begins (λ c r b e. ⊥) (λ n c b s. Declares i n c b s) (λ b ss. ⊥)
      (at_first x).next (at_first x).context (at_first x).base (moved x)
      × IsLocalType p.rows (scope_of i.context) (local_type i.type) i.means

pub data Returned : Type 0 where
  nothing : Returned
  outer_local : (x : Outside) → Returned
  inner_local : (x : Inside) → Returned
  own_value : (type : Ty) → Returned

module _ {p : Program Span} {file from to : ℕ} where
  -- it is the one local that is used behind the piece
  abbrev pub IsOnlyResult : Piece p file from to → (number : ℕ) → Type 0
  IsOnlyResult x n = IsResultOf x n × ((m : ℕ) → IsResultOf x m → m ≡ n)

  -- where these locals are declared outside and named in it
  abbrev pub Returns : Piece p file from to → List Outside → Returned → Type 0
  Returns (of_statements x) outer nothing = (n : ℕ) → IsResultOf (of_statements x) n → ⊥
  Returns (of_statements x) outer (outer_local o) =
      Contains outer o × IsOnlyResult (of_statements x) (number_of o)
  Returns (of_statements x) outer (inner_local i) =
      IsInside x i × IsOnlyResult (of_statements x) i.number
  Returns (of_statements x) outer (own_value t) = ⊥
  Returns (of_value x) outer (own_value t) = t ≡ x.type
  Returns (of_value x) outer r = ⊥
