-- What extract method finds: statements of one list, or an expression, with the locals that are
-- declared outside and named in it, and those that are declared in it.
use Rattle.std.specs.Prelude.{◌≡◌, ◌↔◌, ℕ, Bool, suc, ◌<◌, ◌≤◌, List, map, Option, Some, None, AllPairs, Contains}
use Rattle.jr_text.specs.declared.spans.Span.{Span}
use Rattle.jr_ast.specs.Tree as tree
use Rattle.jr_ast.specs.StatementTree as statement
use Rattle.jr_ast.specs.Marks.{stmt_mark}
use Rattle.jr_table.specs.Keys.{Ty}
use Rattle.jr_table.specs.Decls.{LocalKey, local_decl}
use Rattle.jr_table.specs.Found.{one}
use Rattle.jr_table.specs.Lookup.{FindsVariable}
use Rattle.jr_table.specs.Binding.{value}
use Rattle.jr_table.specs.Context.{Context, Local, Knows, IsLocalType, scope_of}
use Rattle.jr_table.specs.Somewhere.{InExp, InList}
use Rattle.jr_bind.specs.Programs.{Program}
use Rattle.jr_code.specs.RunKeys.{RunKeys}
use Rattle.jr_cover.specs.Sites.{Site, exp_way, stmts_way}
use Rattle.jr_cover.specs.Ways.{Way}
use Rattle.jr_pieces.specs.Standings.{Standing}
use Rattle.jr_bodies.specs.Bodies.{begins, Body, HasBody}
use Rattle.jr_bodies.specs.Selecting.{Selected, at_value}
use Rattle.jr_local.specs.BodyFacts.{TellsNeverNull, known}
use Rattle.jr_member_parts.specs.HeldLists.{
  ListHolds,
  held_at,
  first_of,
  behind_first,
  locals_in_list,
}
use Rattle.jr_extract_method.specs.PieceWays.{list_around, Part, IsResult}

-- how many statements a list has, and the last
abbrev pub count_of : {A : Type 0} → statement.Stmts A → ℕ
count_of statement.end = 0
count_of (statement.more s ss) = suc (count_of ss)

abbrev pub last_of : {A : Type 0} → statement.Stmts A → Option (statement.Stmt A)
last_of statement.end = None
last_of (statement.more s statement.end) = Some s
last_of (statement.more s (statement.more t ss)) = last_of (statement.more t ss)

-- ---- statements

module _ (p : Program Span) (file from to : ℕ) where
  -- so many statements of a list, the first of which begins there, and the last ends
  pub record Statements : Type 0 where
    pub body : Body
    pub has : HasBody p file body
    pub first : statement.Stmt Span
    pub others : statement.Stmts Span
    pub holds : ListHolds (statement.more first others) body.list
    pub count : ℕ
    pub all : count ≤ suc (count_of others)
    pub last : statement.Stmt Span
    pub is_last : last_of (first_of count (statement.more first others)) ≡ Some last
    pub begins_there : (stmt_mark first).from ≡ from
    pub ends_there : (stmt_mark last).to ≡ to

module _ {p : Program Span} {file from to : ℕ} (x : Statements p file from to) where
  -- what is known at the first, the statements, and those behind them in their list
  abbrev pub at_first : Standing
  at_first = held_at begins x.body.at x.holds

  abbrev pub moved : statement.Stmts Span
  moved = first_of x.count (statement.more x.first x.others)

  abbrev pub rest : statement.Stmts Span
  rest = behind_first x.count (statement.more x.first x.others)

-- ---- either

pub data Piece (p : Program Span) (file from to : ℕ) : Type 0 where
  of_statements : Statements p file from to → Piece p file from to
  of_value : Selected p file from to → Piece p file from to

module _ {p : Program Span} {file from to : ℕ} where
  abbrev pub body_of : Piece p file from to → Body
  body_of (of_statements x) = x.body
  body_of (of_value x) = x.body

  abbrev pub has_body : (x : Piece p file from to) → HasBody p file (body_of x)
  has_body (of_statements x) = x.has
  has_body (of_value x) = x.has

  -- what is known where it begins
  abbrev pub standing : Piece p file from to → Standing
  standing (of_statements x) = at_first x
  standing (of_value x) = at_value x

  abbrev pub context_at : Piece p file from to → Context
  context_at x = (standing x).context

  -- how many locals are declared in it; they have the numbers from `standing.next` on
  abbrev pub count_inside : Piece p file from to → ℕ
  count_inside (of_statements x) = locals_in_list (moved x)
  count_inside (of_value x) = 0

  abbrev pub local_of : Piece p file from to → (number : ℕ) → LocalKey
  local_of x n = record { member = (body_of x).key; number = n }

  -- ---- the locals that are named in it

  abbrev pub NamesLocal : Piece p file from to → (number : ℕ) → Context → tree.Exp Span → Type 0
  NamesLocal x n c (tree.name m w) =
      FindsVariable p.rows (scope_of c) w.text (one (local_decl (local_of x n)))
  NamesLocal x n c e = ⊥

  abbrev pub IsNamed : Piece p file from to → (number : ℕ) → Type 0
  IsNamed (of_statements x) n = InList begins (λ c r b e. NamesLocal (of_statements x) n c e)
      (λ i c b s. ⊥) (λ b ss. ⊥) (at_first x).next (at_first x).context (at_first x).base (moved x)
  IsNamed (of_value x) n = InExp begins (λ c r b e. NamesLocal (of_value x) n c e)
      (λ i c b s. ⊥) (λ b ss. ⊥) (at_value x).context value (at_value x).base x.value

-- a local that is declared outside, with its type
pub record Outside : Type 0 where
  pub local : Local
  pub type : Ty

abbrev pub number_of : Outside → ℕ
number_of o = o.local.key.number

module _ {p : Program Span} {file from to : ℕ} (x : Piece p file from to) where
  abbrev pub IsOutside : Outside → Type 0
  IsOutside o = (o.local.key ≡ local_of x (number_of o))
      × Knows (context_at x) o.local.key o.local
      × IsLocalType p.rows (scope_of (context_at x)) o.local.type o.type

  -- those that are named in it, by their numbers: the parameters of the new method
  pub record AreOuter (outer : List Outside) : Type 0 where
    pub rising : AllPairs (λ (a b : Outside). number_of a < number_of b) outer
    pub each : (o : Outside) → Contains outer o → IsOutside o
    pub exact : (o : Outside) → IsOutside o →
        (Contains (map number_of outer) (number_of o) ↔ IsNamed x (number_of o))

-- ---- flow

module _ {p : Program Span} {file from to : ℕ} where
  -- the way of the body, in which the piece is one part, and that part
  abbrev pub body_way : (x : Piece p file from to) → (never_null : tree.Exp Span → Bool)
      → Way (Site RunKeys)
  body_way (of_statements x) never_null = list_around (known p x.body never_null) x.count x.holds
  body_way (of_value x) never_null = stmts_way (known p x.body never_null) x.body.list

  abbrev pub piece_way : (x : Piece p file from to) → (never_null : tree.Exp Span → Bool)
      → Way (Site RunKeys)
  piece_way (of_statements x) never_null = stmts_way (known p x.body never_null) (moved x)
  piece_way (of_value x) never_null = exp_way (known p x.body never_null) x.value

-- Sites of the body: what they are depends on tests for null, which tell what is never null. What
-- stands in front of a constructor's body, and a monitor around a method's, leads nowhere back.
pub record Flow {p : Program Span} {file from to : ℕ} (x : Piece p file from to) : Type 0 where
  pub never_null : tree.Exp Span → Bool
  pub tells : TellsNeverNull p (body_of x) never_null
  pub part : Part (body_way x never_null)
  pub is : part.part ≡ piece_way x never_null

-- the local is written in the piece, and used behind it
abbrev pub IsResultOf : {p : Program Span} {file from to : ℕ} (x : Piece p file from to)
    → (number : ℕ) → Type 0
IsResultOf x n = (f : Flow x) × IsResult f.part n
