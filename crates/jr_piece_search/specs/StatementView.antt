-- The pure values that those of the search among statements stand for.
use Rattle.std.specs.Prelude.{option_map}
use Rattle.jr_ast.specs.View.{expr_of, stmt_of, stmts_of}
use Rattle.jr_piece_search.specs.declared.statement_steps.Inward.{Inward}
use Rattle.jr_piece_search.specs.declared.statement_steps.Inward.TheVariants as variant
use Rattle.jr_piece_search.specs.declared.statement_steps.ChosenStmt.{ChosenStmt}
use Rattle.jr_piece_search.specs.declared.search.Found as raw_found
use Rattle.jr_piece_search.specs.declared.search.Place as raw_place
use Rattle.jr_piece_search.specs.declared.search.Turn as raw_turn
use Rattle.jr_piece_search.specs.declared.search.Turn.TheVariants as kind
use Rattle.jr_piece_search.specs.StatementSteps as pure
use Rattle.jr_piece_search.specs.SoughtStatements.{Found, Place}
use Rattle.jr_piece_search.specs.Turning.{Turn, ended, at}
use Rattle.jr_piece_search.specs.StepView.{use_of, bars_of}

abbrev pub inward_of : Inward → pure.Inward
inward_of variant.Nowhere = pure.nowhere
inward_of (variant.Expr i u again e) = pure.to_exp i (use_of u) again (expr_of e.now)
inward_of (variant.Stmt i s) = pure.to_stmt i (stmt_of s.now)
inward_of (variant.List i b) = pure.to_list i (stmts_of b.now)

abbrev pub chosen_of : ChosenStmt → pure.Chosen
chosen_of x = record {
  number = x.number;
  stmt = stmt_of x.of.now;
  list = stmts_of x.list.now;
}

abbrev pub place_of : raw_place.Place → Place
place_of x = record {
  bars = bars_of x.bars;
  list = stmts_of x.list.now;
  stmt = stmt_of x.of.now;
}

abbrev pub found_of : raw_found.Found → Found
found_of x = record {
  value = expr_of x.value.now;
  usage = use_of x.usage;
  bars = bars_of x.bars;
  list = stmts_of x.list.now;
}

abbrev pub turn_of : raw_turn.Turn → Turn
turn_of (kind.Ended o) = ended (option_map found_of o)
turn_of (kind.At x) = at (place_of x)
