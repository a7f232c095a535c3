-- A turn of a search among statements: exact.
use Rattle.std.specs.Prelude.{◌≡◌, ℕ, true, List, [], ◌∷◌, ◌++◌, Option, Some, None, option_map}
use Rattle.jr_text.specs.declared.spans.Span.{Span}
use Rattle.jr_ast.specs.StatementTree as statement
use Rattle.jr_ast.specs.Marks.{stmt_mark}
use Rattle.jr_piece_search.specs.Sought.{barred, InExp, IsFoundIn}
use Rattle.jr_piece_search.specs.SoughtStatements.{Place, Found}
use Rattle.jr_piece_search.specs.StatementSteps.{
  Inward,
  nowhere,
  to_exp,
  to_stmt,
  to_list,
  Chosen,
  inward,
  choose,
}

-- it ends, with what is found if anything is, or is at a further place
pub data Turn : Type 0 where
  ended : Option Found → Turn
  at : Place → Turn

abbrev pub with_list : statement.Stmts Span → InExp → Found
with_list b x = record { value = x.value; usage = x.usage; bars = x.bars; list = b }

-- to an element of a list, where this bars from where the search began
abbrev pub ToElement : (outer : Option ℕ) → (old new : List ℕ) → Turn → Option Chosen → Type 0
ToElement outer old new t None = t ≡ ended None
ToElement outer old new t (Some w) = (new ≡ old ++ w.number ∷ [])
    × (t ≡ at (record {
      bars = record { outer = outer; own = None };
      list = w.list;
      stmt = w.stmt;
    }))

module _ (s : Span) where
  abbrev pub Turned : Place → (old new : List ℕ) → Turn → Inward → Type 0
  Turned x old new t nowhere = t ≡ ended None
  Turned x old new t (to_exp i u again e) = (r : Option InExp)
      × IsFoundIn s u (barred x.bars again (stmt_mark x.stmt).from) e (old ++ i ∷ []) new r
      × (t ≡ ended (option_map (with_list x.list) r))
  Turned x old new t (to_stmt i y) = (new ≡ old ++ i ∷ []) × (t ≡ at (record {
    bars = barred x.bars true (stmt_mark x.stmt).from;
    list = x.list;
    stmt = y;
  }))
  Turned x old new t (to_list i b) = ToElement x.bars.outer old new t (choose s i b)

  -- from a place
  abbrev pub TurnsFrom : Place → (old new : List ℕ) → Turn → Type 0
  TurnsFrom x old new t = Turned x old new t (inward s x.stmt)
