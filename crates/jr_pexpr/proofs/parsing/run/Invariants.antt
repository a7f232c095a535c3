use Rattle.std.proofs.Common.{◌≡◌, ◌≤◌, []}
use Rattle.std.specs.Prelude.{slice_range}
use Rattle.jr_grammar.specs.Tokens.{placed_of}
use Rattle.jr_pexpr.specs.Machine.{want}
use Rattle.jr_pexpr.specs.StateView.{state_view}
use Rattle.jr_pexpr.specs.Walks.{rule_run}
use Rattle.jr_pexpr.proofs.parsing.run.Given as goal

abbrev pub invariant-loop-i : goal.invariant-loop-i
invariant-loop-i l =
    rule_run l.rule (state_view l.state) (placed_of l.text (slice_range l.items l.i l.to)) ≡ rule_run l.rule (want []) (placed_of l.text (slice_range l.items l.from l.to))
