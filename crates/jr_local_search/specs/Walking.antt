-- A walk over declarations in text order, which goes on with the statement that stands last in
-- another.
use Rattle.std.specs.Prelude.{◌≡◌, ℕ, ◌+◌, List, Option, Some, None, option_map}
use Rattle.jr_text.specs.declared.spans.Span.{Span}
use Rattle.jr_ast.specs.Tree as tree
use Rattle.jr_ast.specs.StatementTree as statement
use Rattle.jr_ast.specs.View.{stmt_of, stmts_of}
use Rattle.jr_table.specs.Context.{locals_in}
use Rattle.jr_piece_search.specs.Ends.{IsLast}
use Rattle.jr_local_search.specs.declared.declarations.Declaration as raw
use Rattle.jr_local_search.specs.declared.declarations.Wanted as raw_wanted
use Rattle.jr_local_search.specs.declared.declarations.Wanted.TheVariants as wanted
use Rattle.jr_local_search.specs.declared.declarations.Walk as raw_walk
use Rattle.jr_local_search.specs.declared.declarations.Walk.TheVariants as walk
use Rattle.jr_local_search.specs.Declarations.{
  Declaration,
  declarations,
  Wanted,
  nobody,
  named,
  numbered,
  first_wanted,
}

-- It has met what is looked for; or is behind the statements, where the next local has the number;
-- or the statement is left that stands last in them.
pub data Walk : Type 0 where
  met : Declaration → Walk
  passed : (next : ℕ) → Walk
  at_last : (next : ℕ) → (stmt : statement.Stmt Span) → Walk

-- what it has met, if anything
abbrev pub found_in : Walk → Option Declaration
found_in (met d) = Some d
found_in (passed n) = None
found_in (at_last n s) = None

-- the pure values that those of the walk stand for
abbrev pub declaration_of : raw.Declaration → Declaration
declaration_of d = record {
  number = d.number;
  name = d.name.now;
  list = option_map (λ l. stmts_of l.now) d.list;
}

abbrev pub wanted_of : raw_wanted.Wanted → Wanted
wanted_of wanted.Nobody = nobody
wanted_of (wanted.Named name) = named name.now
wanted_of (wanted.Numbered n) = numbered n

abbrev pub walk_of : raw_walk.Walk → Walk
walk_of (walk.Met d) = met (declaration_of d)
walk_of (walk.Behind n) = passed n
walk_of (walk.Last n s) = at_last n (stmt_of s.now)

module _ (w : Wanted) where
  -- the whole of statements with these declarations, behind which the next local has the number
  abbrev pub Walks : List Declaration → (end : ℕ) → Walk → Type 0
  Walks ds end (met d) = first_wanted w ds ≡ Some d
  Walks ds end (passed n) = (first_wanted w ds ≡ None) × (n ≡ end)
  Walks ds end (at_last n s) = ⊥

  -- a statement, but for the one that stands last in it
  abbrev pub HeadWalks : (here : Option (statement.Stmts Span)) → (next : ℕ)
      → statement.Stmt Span → Walk → Type 0
  HeadWalks here n s (met d) = first_wanted w (declarations here n s) ≡ Some d
  HeadWalks here n s (passed m) =
      (first_wanted w (declarations here n s) ≡ None) × (m ≡ n + locals_in s)
  HeadWalks here n s (at_last m t) = (first_wanted w (declarations here n s)
      ≡ first_wanted w (declarations None m t)) × (n + locals_in s ≡ m + locals_in t)
      × IsLast t s

  -- the branches of an `if`
  abbrev pub BranchesWalk : (next : ℕ) → statement.Stmt Span → statement.Else Span → Walk
      → Type 0
  BranchesWalk n x o r = (here : Option (statement.Stmts Span)) (m : Span) (c : tree.Exp Span)
      → HeadWalks here n (statement.branch m c x o) r
