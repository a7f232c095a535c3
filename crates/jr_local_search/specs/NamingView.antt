-- How the names in a list are gathered, one place behind the other.
use Rattle.std.specs.Prelude.{
  ◌≡◌,
  ◌≢◌,
  ℕ,
  ◌+◌,
  ◌<◌,
  ◌^◌,
  ◌==◌,
  ◌&&◌,
  not,
  Bool,
  true,
  false,
  List,
  [],
  ◌∷◌,
  ◌++◌,
  Option,
  Some,
  None,
  if◌then◌else◌,
}
use Rattle.jr_text.specs.declared.spans.Span.{Span}
use Rattle.jr_ast.specs.Tree as tree
use Rattle.jr_ast.specs.StatementTree as statement
use Rattle.jr_grammar.specs.Layout.{itself}
use Rattle.jr_pieces.specs.Ways.{ListWay}
use Rattle.jr_pieces.specs.Nesting.{ListNested}
use Rattle.jr_piece_search.specs.SoughtStatements.{Found}
use Rattle.jr_piece_search.specs.StepView.{use_of}
use Rattle.jr_local_search.specs.declared.names.Naming as raw
use Rattle.jr_local_search.specs.Namings.{Naming, IsNaming, is_read}

abbrev pub naming_of : raw.Naming → Naming
naming_of x = record { span = x.span; usage = use_of x.usage; bar = x.bar }

abbrev pub is_name : tree.Exp Span → Bool
is_name (tree.name m w) = true
is_name (tree.number m n) = false
is_name (tree.truth m b) = false
is_name (tree.null m) = false
is_name (tree.string m t) = false
is_name (tree.field m e w) = false
is_name (tree.super_field m w) = false
is_name (tree.this m) = false
is_name (tree.class_literal m t) = false
is_name (tree.call m t w es) = false
is_name (tree.super_call m w es) = false
is_name (tree.create m t es) = false
is_name (tree.paren m e) = false
is_name (tree.cast m t e) = false
is_name (tree.unary m o e) = false
is_name (tree.bump m o e) = false
is_name (tree.binary m o l r) = false
is_name (tree.assign m l r) = false
is_name (tree.compound m o l r) = false

abbrev pub naming_there : Span → Found → Naming
naming_there s x = record { span = s; usage = x.usage; bar = x.bars.outer }

-- what is found, where it is a name
abbrev pub named_in : Span → Option Found → Option Naming
named_in s None = None
named_in s (Some x) = if is_name x.value then Some (naming_there s x) else None

-- a name of the span stands in the list, or, where spans are nested, none does
abbrev pub IsNamedAt : Span → statement.Stmts Span → Option Naming → Type 0
IsNamedAt s b (Some x) = IsNaming b x × (x.span ≡ s)
IsNamedAt s b None = (whole : Span) (lo : ℕ) → ListNested itself whole lo b
    → (mark : Span) (word : tree.Word Span) → ListWay (tree.name mark word) b → mark ≢ s

abbrev pub listed : Option Naming → List Naming
listed None = []
listed (Some x) = x ∷ []

-- what comes of one place
pub record AddsNaming (at size : ℕ) (b : statement.Stmts Span) (old new : List Naming) : Type 0
  where
    pub put : Option Naming
    pub is : new ≡ old ++ listed put
    pub there : (x : Naming) → put ≡ Some x
        → IsNaming b x × (x.span ≡ record { from = at; to = at + size })
    pub absent : put ≡ None → (whole : Span) (lo : ℕ) → ListNested itself whole lo b
        → (mark : Span) (word : tree.Word Span) → ListWay (tree.name mark word) b
        → mark.from ≡ at → mark.to ≡ at + size → mark.to < 2 ^ 32 → ⊥

-- ---- reads

abbrev pub is_read_elsewhere : (at : ℕ) → Naming → Bool
is_read_elsewhere at x = is_read x.usage && not (x.span.from == at)

abbrev pub all_read_at : (at : ℕ) → List Naming → Bool
all_read_at at [] = true
all_read_at at (x ∷ xs) = if is_read_elsewhere at x then false else all_read_at at xs
