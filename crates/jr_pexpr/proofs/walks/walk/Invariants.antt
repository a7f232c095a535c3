use Rattle.std.proofs.Common.{◌≡◌, ◌≤◌, [], None, length, drop}
use Rattle.jr_pexpr.specs.Machine.{want}
use Rattle.jr_pexpr.specs.StateView.{state_view}
use Rattle.jr_pexpr.specs.Walks.{walk_end, walk_stop, walk_last}
use Rattle.jr_pexpr.proofs.walks.walk.Given as goal

-- what is answered from here on is what is answered from the first item on
abbrev pub invariant-loop-i : goal.invariant-loop-i
invariant-loop-i l = record {
  within : l.i ≤ length l.items;
  end : walk_end l.rule l.text (state_view l.state) l.i l.end (drop l.i l.items) ≡ walk_end l.rule l.text (want []) l.from None (drop l.from l.items);
  stop : walk_stop l.rule l.text (state_view l.state) l.i (drop l.i l.items) ≡ walk_stop l.rule l.text (want []) l.from (drop l.from l.items);
  last : walk_last l.rule l.text (state_view l.state) (drop l.i l.items) ≡ walk_last l.rule l.text (want []) (drop l.from l.items);
}
