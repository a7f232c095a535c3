-- The local or parameter whose declared name begins at a byte, as one walk over a member finds it:
-- exact.
use Rattle.std.specs.Prelude.{
  ℕ,
  suc,
  ◌==◌,
  List,
  [],
  ◌∷◌,
  Option,
  Some,
  None,
  if◌then◌else◌,
}
use Rattle.jr_text.specs.declared.spans.Span.{Span}
use Rattle.jr_ast.specs.Tree as tree
use Rattle.jr_ast.specs.StatementTree as statement
use Rattle.jr_ast.specs.MemberTree as syntax
use Rattle.jr_cursor.specs.declared.searches.Search.{Search}

-- the first of two that there is
abbrev pub or_else : {X : Type 0} → Option X → Option X → Option X
or_else None o = o
or_else (Some x) o = Some x

-- before the first local
abbrev pub start : Search
start = record { found = None; next = 0 }

-- the number, if the word begins there
abbrev pub number_there : (at : ℕ) → (number : ℕ) → tree.Word Span → Option ℕ
number_there at n w = if w.mark.from == at then Some n else None

-- behind the word of one more local
abbrev pub meet : (at : ℕ) → Search → tree.Word Span → Search
meet at b w =
    record { found = or_else b.found (number_there at b.next w); next = suc b.next }

abbrev pub in_params : (at : ℕ) → Search → List (syntax.Param Span) → Search
in_params at b [] = b
in_params at b (p ∷ ps) = in_params at (meet at b p.name) ps

-- behind a statement
unfoldable mutual
  pub in_stmt : (at : ℕ) → Search → statement.Stmt Span → Search
  in_stmt at b (statement.local m f t w e) = meet at b w
  in_stmt at b (statement.eval m e) = b
  in_stmt at b (statement.branch m e x other) = in_else at (in_stmt at b x) other
  in_stmt at b (statement.loop m e x) = in_stmt at b x
  in_stmt at b (statement.return m e) = b
  in_stmt at b (statement.block m body) = in_stmts at b body
  in_stmt at b (statement.sync m e body) = in_stmts at b body
  in_stmt at b (statement.empty m) = b

  pub in_else : (at : ℕ) → Search → statement.Else Span → Search
  in_else at b statement.no_else = b
  in_else at b (statement.otherwise x) = in_stmt at b x

  pub in_stmts : (at : ℕ) → Search → statement.Stmts Span → Search
  in_stmts at b statement.end = b
  in_stmts at b (statement.more x xs) = in_stmts at (in_stmt at b x) xs

-- the parameters of a member, and then its body
abbrev pub in_code : (at : ℕ) → List (syntax.Param Span) → statement.Stmts Span → Option ℕ
in_code at ps body = (in_stmts at (in_params at start ps) body).found

abbrev pub in_member : (at : ℕ) → syntax.Member Span → Option ℕ
in_member at (syntax.field m mods t w init) = None
in_member at (syntax.method m mods t w ps body) = in_code at ps body
in_member at (syntax.constructor m mods w ps args body) = in_code at ps body
in_member at (syntax.inner m of) = None
