-- The pure values that those of the search stand for.
use Rattle.jr_ast.specs.View.{expr_of}
use Rattle.jr_pieces.specs.Uses.{Use, valued, assigned, changed, stated}
use Rattle.jr_piece_search.specs.declared.steps.Usage.{Usage}
use Rattle.jr_piece_search.specs.declared.steps.Usage.TheVariants as variant
use Rattle.jr_piece_search.specs.declared.steps.Bars as raw_bars
use Rattle.jr_piece_search.specs.declared.steps.Step as raw_step
use Rattle.jr_piece_search.specs.declared.steps.Chosen as raw_chosen
use Rattle.jr_piece_search.specs.declared.exprs.InExpr as raw_found
use Rattle.jr_piece_search.specs.Steps.{Step, Chosen}
use Rattle.jr_piece_search.specs.Sought.{Bars, InExp}

abbrev pub use_of : Usage → Use
use_of variant.Valued = valued
use_of variant.Assigned = assigned
use_of variant.Changed = changed
use_of variant.Stated = stated

abbrev pub bars_of : raw_bars.Bars → Bars
bars_of b = record { outer = b.outer; own = b.own }

abbrev pub step_of : raw_step.Step → Step
step_of x = record {
  number = x.number;
  usage = use_of x.usage;
  lazy = x.lazy;
  part = expr_of x.part.now;
}

abbrev pub chosen_of : raw_chosen.Chosen → Chosen
chosen_of x = record { number = x.number; part = expr_of x.part.now }

abbrev pub in_expr_of : raw_found.InExpr → InExp
in_expr_of x = record {
  value = expr_of x.value.now;
  usage = use_of x.usage;
  bars = bars_of x.bars;
}
