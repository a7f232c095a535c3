-- The locals that are declared in statements, at any depth, in text order (JLS 14.4), and the first
-- of them that is looked for.
use Rattle.std.specs.Prelude.{
  ◌≡◌,
  ℕ,
  ◌+◌,
  ◌==◌,
  Bool,
  false,
  List,
  [],
  ◌∷◌,
  ◌++◌,
  Option,
  Some,
  None,
  if◌then◌else◌,
}
use Rattle.jr_text.specs.declared.spans.Span.{Span}
use Rattle.jr_ast.specs.Tree as tree
use Rattle.jr_ast.specs.StatementTree as statement
use Rattle.jr_table.specs.SameKeys.{same_name}
use Rattle.jr_table.specs.Context.{locals_in}

-- the number of a local, its name, and the list from its declaration on, if this is an element of
-- one
pub record Declaration : Type 0 where
  pub number : ℕ
  pub name : List ℕ
  pub list : Option (statement.Stmts Span)

abbrev mutual
  -- of a statement, where the next local has the number; here: the list from it on, if it is an
  -- element of one
  pub declarations : (here : Option (statement.Stmts Span)) → (next : ℕ) → statement.Stmt Span
      → List Declaration
  declarations here n (statement.local m is_final t w e) =
      (record { number = n; name = w.text; list = here }) ∷ []
  declarations here n (statement.eval m e) = []
  declarations here n (statement.branch m c s o) =
      declarations None n s ++ declarations_behind (n + locals_in s) o
  declarations here n (statement.loop m c s) = declarations None n s
  declarations here n (statement.return m e) = []
  declarations here n (statement.block m b) = declarations_in n b
  declarations here n (statement.sync m e b) = declarations_in n b
  declarations here n (statement.empty m) = []

  -- behind `else`
  pub declarations_behind : (next : ℕ) → statement.Else Span → List Declaration
  declarations_behind n statement.no_else = []
  declarations_behind n (statement.otherwise s) = declarations None n s

  pub declarations_in : (next : ℕ) → statement.Stmts Span → List Declaration
  declarations_in n statement.end = []
  declarations_in n (statement.more s ss) =
      declarations (Some (statement.more s ss)) n s ++ declarations_in (n + locals_in s) ss

-- none; the first of a name; that of a number
pub data Wanted : Type 0 where
  nobody : Wanted
  named : (name : List ℕ) → Wanted
  numbered : (number : ℕ) → Wanted

abbrev pub is_wanted : Wanted → Declaration → Bool
is_wanted nobody d = false
is_wanted (named name) d = same_name d.name name
is_wanted (numbered n) d = d.number == n

abbrev pub first_wanted : Wanted → List Declaration → Option Declaration
first_wanted w [] = None
first_wanted w (d ∷ ds) = if is_wanted w d then Some d else first_wanted w ds
