-- What is known at the element of a list to which a path leads, as far as locals are asked for.
use Rattle.std.specs.Prelude.{
  ◌≡◌,
  ℕ,
  zero,
  suc,
  Bool,
  List,
  [],
  ◌∷◌,
  length,
  Option,
  Some,
  None,
  option_map,
  if◌then◌else◌,
}
use Rattle.jr_text.specs.declared.spans.Span.{Span}
use Rattle.jr_ast.specs.Tree as tree
use Rattle.jr_ast.specs.StatementTree as statement
use Rattle.jr_ast.specs.MemberTree as syntax
use Rattle.jr_table.specs.SameKeys.{same_name}
use Rattle.jr_table.specs.Decls.{MemberKey, LocalKey}
use Rattle.jr_table.specs.Context.{Context, scope_of, local_key}
use Rattle.jr_table.specs.HeadRules.{with_parameters}
use Rattle.jr_pieces.specs.Ways.{ListWay}
use Rattle.jr_pieces.specs.Standings.{Standing}
use Rattle.jr_pieces.specs.Nearest.{nearest}
use Rattle.jr_pieces.specs.Declared.{first_named}
use Rattle.jr_pieces.specs.Finding.{list_path}
use Rattle.jr_piece_search.specs.Sought.{begins}

-- the number of the next local, and that of the first local in scope that has the name
pub record AtElement : Type 0 where
  pub next : ℕ
  pub named : Option ℕ

-- It is so there.
pub record IsAt (name : List ℕ) (p : Standing) (x : AtElement) : Type 0 where
  pub next : p.next ≡ x.next
  pub named : first_named name (scope_of p.context).locals
      ≡ option_map (local_key p.context) x.named

-- From what is known where a list begins, whose elements have numbers from `first` on, what is
-- known at the nearest element of an expression to which the path leads.
abbrev pub IsAtElement : List ℕ → (first : ℕ) → statement.Stmts Span → (path : List ℕ)
    → (outer inner : AtElement) → Type 0
IsAtElement name first b path outer inner = (f : tree.Exp Span) (way : ListWay f b) (p : Standing)
    → path ≡ list_path first way → IsAt name p outer → IsAt name (nearest begins p way).at inner

-- ---- where a body begins

-- the number of the first parameter of the name, if it is among the first ones: those that have a
-- type
abbrev pub first_param : List ℕ → (next types : ℕ) → List (syntax.Param Span) → Option ℕ
first_param name n types [] = None
first_param name n zero (p ∷ ps) = None
first_param name n (suc types) (p ∷ ps) =
    if same_name p.name.text name then Some n else first_param name (suc n) types ps

-- the body of a method or constructor with these parameters
abbrev pub in_body : MemberKey → (is_static : Bool) → (base : ℕ) → List (syntax.Param Span)
    → Standing
in_body k is_static base ps = record {
  next = length ps;
  context = with_parameters k is_static ps;
  base = base;
}
