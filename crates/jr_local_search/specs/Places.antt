-- What stands against extract local and inline local at a place, in the order of refusals.
use Rattle.std.specs.Prelude.{
  ◌≡◌,
  ℕ,
  ◌≤◌,
  Bool,
  true,
  false,
  List,
  ◌++◌,
  Option,
  Some,
  None,
}
use Rattle.jr_text.specs.declared.spans.Span.{Span}
use Rattle.jr_ast.specs.StatementTree as statement
use Rattle.jr_table.specs.Decls.{LocalKey}
use Rattle.jr_table.specs.Context.{scope_of, local_key}
use Rattle.jr_pieces.specs.Ways.{ListWay}
use Rattle.jr_pieces.specs.Standings.{Standing}
use Rattle.jr_pieces.specs.Nearest.{Element, nearest}
use Rattle.jr_pieces.specs.Bars.{stmt_barred}
use Rattle.jr_pieces.specs.Declared.{declared_in_list, first_named}
use Rattle.jr_pieces.specs.Finding.{list_path}
use Rattle.jr_piece_search.specs.Sought.{begins}
use Rattle.jr_piece_search.specs.SoughtStatements.{Found}
use Rattle.jr_local_search.specs.Scopes.{AtElement, IsAt}
use Rattle.jr_local_search.specs.Namings.{Naming, IsOnlyRead, first_target}

-- ---- extract

-- something bars the expression; a local of the number has the name; nothing, and the new local
-- gets the number
pub data ExtractPlace : Type 0 where
  barred : (at : ℕ) → ExtractPlace
  taken : (number : ℕ) → ExtractPlace
  open_for : (number : ℕ) → ExtractPlace

module _ (name : List ℕ) where
  -- the local that has the name where a declaration comes in front of the list
  abbrev pub first_taken : Standing → statement.Stmts Span → Option LocalKey
  first_taken p held = first_named name ((scope_of p.context).locals
      ++ declared_in_list p.context.member p.next held)

  -- where nothing bars the expression
  abbrev pub IsUnbarred : AtElement → (held : statement.Stmts Span) → ExtractPlace → Type 0
  IsUnbarred x held (barred at) = ⊥
  IsUnbarred x held (taken n) = (p : Standing) → IsAt name p x
      → first_taken p held ≡ Some (local_key p.context n)
  IsUnbarred x held (open_for n) = (p : Standing) → IsAt name p x
      → (first_taken p held ≡ None) × (p.next ≡ n)

  -- the construct of the element that may leave the expression out, or evaluate it again
  module _ {b : statement.Stmts Span} (x : Found) (p : Standing) (way : ListWay x.value b) where
    abbrev pub element : Element x.value
    element = nearest begins p way

    abbrev pub IsBarredBy : Option ℕ → Type 0
    IsBarredBy o = (base : ℕ) → stmt_barred begins base None element.way ≡ o

    abbrev pub taken_there : Option LocalKey
    taken_there = first_taken element.at (statement.more element.stmt element.rest)

    abbrev pub ExtractsAt : ExtractPlace → Type 0
    ExtractsAt (barred at) = IsBarredBy (Some at)
    ExtractsAt (taken n) =
        IsBarredBy None × (taken_there ≡ Some (local_key element.at.context n))
    ExtractsAt (open_for n) =
        IsBarredBy None × (taken_there ≡ None) × (element.at.next ≡ n)

  -- of an expression that a search has found by a path, by what is known where the list begins
  abbrev pub IsExtractPlace : AtElement → (first : ℕ) → statement.Stmts Span → (path : List ℕ)
      → Found → ExtractPlace → Type 0
  IsExtractPlace at first b path x r = (way : ListWay x.value b) (p : Standing)
      → path ≡ list_path first way
      → x.list ≡ statement.more (element x p way).stmt (element x p way).rest
      → IsBarredBy x p way x.bars.own → IsAt name p at → ExtractsAt x p way r

-- ---- inline

-- an initializer that does more than read locals, of a local that isn't read just once; something
-- bars the one read; a `return` stands in front of it; the local is assigned; nothing
pub data InlinePlace : Type 0 where
  used_otherwise : InlinePlace
  read_barred : (at : ℕ) → InlinePlace
  read_behind : (stop : Span) → InlinePlace
  assigned_at : (at : ℕ) → InlinePlace
  let_go : InlinePlace

-- the first `return` of a list ends in front of the byte, or it doesn't, if there is one
abbrev pub IsReturnBefore : (first : Option Span) → (at : ℕ) → Option Span → Type 0
IsReturnBefore first at (Some s) = (first ≡ Some s) × (s.to ≤ at)
IsReturnBefore first at None = (s : Span) → first ≡ Some s → s.to ≤ at → ⊥

-- the one read, which nothing bars
pub record IsStraight (xs : List Naming) (x : Naming) : Type 0 where
  pub only : IsOnlyRead xs x
  pub straight : x.bar ≡ None

-- The initializer may come to the reads.
abbrev pub MayMove : (is_plain : Bool) → (first : Option Span) → List Naming → Type 0
MayMove true first xs = Unit {0}
MayMove false first xs =
    (x : Naming) × IsStraight xs x × IsReturnBefore first x.span.from None

-- xs: the names of the local behind its declaration; first: the first `return` there
abbrev pub IsInlinePlace : (is_plain : Bool) → (first : Option Span) → List Naming → InlinePlace
    → Type 0
IsInlinePlace plain first xs used_otherwise =
    (plain ≡ false) × ((x : Naming) → IsOnlyRead xs x → ⊥)
IsInlinePlace plain first xs (read_barred at) =
    (plain ≡ false) × (x : Naming) × IsOnlyRead xs x × (x.bar ≡ Some at)
IsInlinePlace plain first xs (read_behind s) = (plain ≡ false) × (x : Naming) × IsStraight xs x
    × IsReturnBefore first x.span.from (Some s)
IsInlinePlace plain first xs (assigned_at at) =
    MayMove plain first xs × (t : Naming) × (first_target xs ≡ Some t) × (t.span.from ≡ at)
IsInlinePlace plain first xs let_go = MayMove plain first xs × (first_target xs ≡ None)
