-- The way down a path, as far as the elements of lists on it are asked for: exact.
use Rattle.std.specs.Prelude.{
  ℕ,
  suc,
  ◌+◌,
  ◌==◌,
  Bool,
  true,
  false,
  List,
  Option,
  Some,
  None,
  if◌then◌else◌,
}
use Rattle.jr_text.specs.declared.spans.Span.{Span}
use Rattle.jr_ast.specs.StatementTree as statement
use Rattle.jr_ast.specs.View.{stmt_of, stmts_of}
use Rattle.jr_table.specs.SameKeys.{same_name}
use Rattle.jr_table.specs.Context.{locals_in}
use Rattle.jr_local_search.specs.declared.scopes.AtElement as raw
use Rattle.jr_local_search.specs.declared.scopes.Place as raw_place
use Rattle.jr_local_search.specs.declared.scopes.Place.TheVariants as variant
use Rattle.jr_local_search.specs.Scopes.{AtElement}

-- in front of a list, whose elements have numbers from one on, with what is known there; at a
-- statement within an element, where the next local has the number, with what is known at the
-- element; in no statement any more
pub data Place : Type 0 where
  in_list : AtElement → (first : ℕ) → statement.Stmts Span → Place
  in_stmt : AtElement → (next : ℕ) → statement.Stmt Span → Place
  ended : AtElement → Place

abbrev pub at_of : raw.AtElement → AtElement
at_of x = record { next = x.next; named = x.named }

abbrev pub place_of : raw_place.Place → Place
place_of (variant.List x i b) = in_list (at_of x) i (stmts_of b.now)
place_of (variant.Stmt x n s) = in_stmt (at_of x) n (stmt_of s.now)
place_of (variant.Ended x) = ended (at_of x)

-- what is known at the nearest element
abbrev pub element_of : Place → AtElement
element_of (in_list x i b) = x
element_of (in_stmt x n s) = x
element_of (ended x) = x

abbrev pub or_next : Option ℕ → Bool → (next : ℕ) → Option ℕ
or_next (Some k) is_named n = Some k
or_next None true n = Some n
or_next None false n = None

module _ (name : List ℕ) where
  -- the statement declares a local of the name, which is in scope behind it
  abbrev pub declares : statement.Stmt Span → Bool
  declares (statement.local m is_final t w e) = same_name w.text name
  declares (statement.eval m e) = false
  declares (statement.branch m c s o) = false
  declares (statement.loop m c s) = false
  declares (statement.return m e) = false
  declares (statement.block m b) = false
  declares (statement.sync m e b) = false
  declares (statement.empty m) = false

  -- behind an element
  abbrev pub past : statement.Stmt Span → AtElement → AtElement
  past s x = record {
    next = x.next + locals_in s;
    named = or_next x.named (declares s) x.next;
  }

  -- to the element of the number k, where the first has the number i
  unfoldable pub pick : AtElement → (i k : ℕ) → statement.Stmts Span → Place
  pick x i k statement.end = ended x
  pick x i k (statement.more s ss) =
      if i == k then in_stmt x x.next s else pick (past s x) (suc i) k ss

  -- what is known in front of a list within an element
  abbrev pub within : AtElement → (next : ℕ) → AtElement
  within x n = record { next = n; named = x.named }

  abbrev pub else_step : AtElement → (next : ℕ) → statement.Else Span → Place
  else_step x n statement.no_else = ended x
  else_step x n (statement.otherwise s) = in_stmt x n s

  -- from a statement to the child of the number k
  abbrev pub stmt_step : AtElement → (next : ℕ) → statement.Stmt Span → (k : ℕ) → Place
  stmt_step x n (statement.local m is_final t w e) k = ended x
  stmt_step x n (statement.eval m e) k = ended x
  stmt_step x n (statement.branch m c s o) k = if k == 0 then ended x
      else (if k == 1 then in_stmt x n s else else_step x (n + locals_in s) o)
  stmt_step x n (statement.loop m c s) k = if k == 0 then ended x else in_stmt x n s
  stmt_step x n (statement.return m e) k = ended x
  stmt_step x n (statement.block m b) k = pick (within x n) 0 k b
  stmt_step x n (statement.sync m e b) k =
      if k == 0 then ended x else pick (within x n) 1 k b
  stmt_step x n (statement.empty m) k = ended x

  abbrev pub step : Place → (k : ℕ) → Place
  step (in_list x i b) k = pick x i k b
  step (in_stmt x n s) k = stmt_step x n s k
  step (ended x) k = ended x
