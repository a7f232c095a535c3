-- What holds of the declarations of a list: which names they take, and where they stand.
use Rattle.std.specs.Prelude.{◌≡◌, ℕ, Bool, List, Option, Some, option_map}
use Rattle.jr_text.specs.declared.spans.Span.{Span}
use Rattle.jr_ast.specs.Tree as tree
use Rattle.jr_ast.specs.StatementTree as statement
use Rattle.jr_table.specs.Decls.{MemberKey, LocalKey}
use Rattle.jr_pieces.specs.Ways.{ListWay}
use Rattle.jr_pieces.specs.Standings.{Standing}
use Rattle.jr_pieces.specs.Nearest.{nearest}
use Rattle.jr_pieces.specs.Declared.{declared_in_list, first_named}
use Rattle.jr_piece_search.specs.Sought.{begins}
use Rattle.jr_local_search.specs.Declarations.{
  Declaration,
  declarations_in,
  named,
  numbered,
  first_wanted,
}

-- the key of a declared local of a member
abbrev pub key_in : MemberKey → Declaration → LocalKey
key_in k d = record { member = k; number = d.number }

-- Of the locals that a list declares the first of a name is the first declaration of it.
abbrev pub DeclaredNames : Type 0
DeclaredNames = (k : MemberKey) (name : List ℕ) (next : ℕ) (b : statement.Stmts Span)
    → first_named name (declared_in_list k next b)
    ≡ option_map (key_in k) (first_wanted (named name) (declarations_in next b))

-- A declaration of the number stands at the head of this list, which is the rest of one in b from
-- there on: a way leads from b to its initializer. The first local of b has the number `next`.
pub record StandsDeclared (b : statement.Stmts Span) (next number : ℕ)
    (list : statement.Stmts Span) : Type 0 where
  pub mark : Span
  pub is_final : Bool
  pub type : tree.TypeName Span
  pub word : tree.Word Span
  pub init : tree.Exp Span
  pub rest : statement.Stmts Span
  pub is : list ≡ statement.more (statement.local mark is_final type word init) rest
  pub way : ListWay init b
  pub element : (p : Standing) → p.next ≡ next
      → ((nearest begins p way).stmt ≡ statement.local mark is_final type word init)
      × ((nearest begins p way).rest ≡ rest) × ((nearest begins p way).at.next ≡ number)

-- What is found by its number stands there.
abbrev pub DeclarationsHaveWays : Type 0
DeclarationsHaveWays = (b : statement.Stmts Span) (next number : ℕ) (d : Declaration)
    (list : statement.Stmts Span)
    → first_wanted (numbered number) (declarations_in next b) ≡ Some d → d.list ≡ Some list
    → StandsDeclared b next number list

-- Each declaration that is the nearest element of a way is found by its number.
abbrev pub WaysAreDeclared : Type 0
WaysAreDeclared = (b : statement.Stmts Span) (f : tree.Exp Span) (way : ListWay f b)
    (p : Standing) (mark : Span) (is_final : Bool) (type : tree.TypeName Span)
    (word : tree.Word Span) (init : tree.Exp Span)
    → (nearest begins p way).stmt ≡ statement.local mark is_final type word init
    → first_wanted (numbered (nearest begins p way).at.next) (declarations_in p.next b)
    ≡ Some (record {
      number = (nearest begins p way).at.next;
      name = word.text;
      list = Some (statement.more (nearest begins p way).stmt (nearest begins p way).rest);
    })
