-- Where a local is named in a list of statements, by the bytes where its references begin: how it
-- is used there and what bars the place.
use Rattle.std.specs.Prelude.{
  ◌≡◌,
  ◌⊎◌,
  ℕ,
  ◌+◌,
  ◌<◌,
  ◌≤◌,
  ◌^◌,
  Bool,
  true,
  false,
  List,
  [],
  ◌∷◌,
  Option,
  Some,
  None,
  slice_get,
  if◌then◌else◌,
}
use Rattle.jr_text.specs.declared.spans.Span.{Span}
use Rattle.jr_ast.specs.Tree as tree
use Rattle.jr_ast.specs.StatementTree as statement
use Rattle.jr_grammar.specs.Layout.{itself}
use Rattle.jr_pieces.specs.Ways.{ListWay}
use Rattle.jr_pieces.specs.Nesting.{ListNested}
use Rattle.jr_pieces.specs.Uses.{Use, valued, assigned, changed, stated, list_use}
use Rattle.jr_pieces.specs.Bars.{list_barred}
use Rattle.jr_piece_search.specs.Sought.{begins}

-- its span, how it is used, and the first byte of what bars it
pub record Naming : Type 0 where
  pub span : Span
  pub usage : Use
  pub bar : Option ℕ

abbrev pub first_byte : Naming → ℕ
first_byte x = x.span.from

-- a way of the list leads to a name of the span
pub record IsNaming (b : statement.Stmts Span) (x : Naming) : Type 0 where
  pub text : List ℕ
  pub word : Span
  pub way : ListWay (tree.name x.span (record { mark = word; text = text })) b
  pub used : x.usage ≡ list_use way
  pub barred : (base : ℕ) → x.bar ≡ list_barred begins base None way

-- an element of a list
abbrev pub Among : {X : Type 0} → List X → X → Type 0
Among xs x = (i : ℕ) × (slice_get xs i ≡ Some x)

-- none has a lower number than one in front of it
abbrev pub RisesBy : {X : Type 0} → (X → ℕ) → List X → Type 0
RisesBy {X} number xs = (i j : ℕ) (x y : X) → i ≤ j → slice_get xs i ≡ Some x
    → slice_get xs j ≡ Some y → number x ≤ number y

-- The names in the list that begin at one of the places and have so many bytes, in the order of the
-- places. That none is left out asks for nested spans.
pub record AreNamings (places : List ℕ) (size : ℕ) (b : statement.Stmts Span) (xs : List Naming)
    : Type 0 where
  pub each : (x : Naming) → Among xs x
      → IsNaming b x × Among places x.span.from × (x.span.to ≡ x.span.from + size)
  pub all : (whole : Span) (lo : ℕ) → ListNested itself whole lo b
      → (mark : Span) (word : tree.Word Span) → ListWay (tree.name mark word) b
      → Among places mark.from → mark.to ≡ mark.from + size → mark.to < 2 ^ 32
      → (x : Naming) × Among xs x × (x.span ≡ mark)
  pub rise : RisesBy (λ (at : ℕ). at) places → RisesBy first_byte xs

-- ---- reads and targets

-- `=` alone doesn't read what it assigns
abbrev pub is_read : Use → Bool
is_read valued = true
is_read assigned = false
is_read changed = true
is_read stated = true

abbrev pub is_target : Use → Bool
is_target valued = false
is_target assigned = true
is_target changed = true
is_target stated = false

-- it is the one read; two at one byte are one
pub record IsOnlyRead (xs : List Naming) (x : Naming) : Type 0 where
  pub number : ℕ
  pub stands : slice_get xs number ≡ Some x
  pub reads : is_read x.usage ≡ true
  pub only : (i : ℕ) (y : Naming) → slice_get xs i ≡ Some y → is_read y.usage ≡ true
      → y.span.from ≡ x.span.from

abbrev pub first_read : List Naming → Option Naming
first_read [] = None
first_read (x ∷ xs) = if is_read x.usage then Some x else first_read xs

-- the first target
abbrev pub first_target : List Naming → Option Naming
first_target [] = None
first_target (x ∷ xs) = if is_target x.usage then Some x else first_target xs
