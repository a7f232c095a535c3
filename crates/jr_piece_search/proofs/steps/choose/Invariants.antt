use Rattle.std.proofs.Common.{◌≡◌, drop}
use Rattle.jr_ast.specs.View.{exprs_of}
use Rattle.jr_piece_search.specs.Steps.{choose}
use Rattle.jr_piece_search.proofs.steps.choose.Given as goal

-- what is chosen from here on is what is chosen from the first argument on
abbrev pub invariant-loop-part : goal.invariant-loop-part
invariant-loop-part l = choose l.span l.number (exprs_of (drop l.part-index l.args)) ≡ choose l.span l.fn.first (exprs_of l.args)
