use Rattle.jr_index.specs.Linked.{is_at}
use Rattle.jr_table.specs.declared.entries.Entry.{Entry}
use Rattle.jr_table.specs.MemberIndex.{member_place}
use Rattle.jr_table.specs.Wanted.{passes, wanted_name}
use Rattle.jr_table.proofs.MemberWalk.{Walked, left}
use Rattle.jr_table.proofs.first_wanted.first_wanted.Given as goal

abbrev pub invariant-loop-at : goal.invariant-loop-at
invariant-loop-at l = Walked (λ (e : Entry). is_at l.class (wanted_name l.wanted) (member_place e)) (passes l.wanted l.class) l.entries l.at

abbrev pub decreases-loop-at : goal.decreases-loop-at
decreases-loop-at l = left l.entries l.at
