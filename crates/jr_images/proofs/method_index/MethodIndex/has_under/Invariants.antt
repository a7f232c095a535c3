use Rattle.jr_table.specs.KeyView.{method_key_of}
use Rattle.jr_table.proofs.MemberWalk.{Walked, left}
use Rattle.jr_images.proofs.MethodWalks.{is_named, is_key}
use Rattle.jr_images.proofs.method_index.MethodIndex.has_under.Given as goal

abbrev pub invariant-loop-at : goal.invariant-loop-at
invariant-loop-at l = Walked (is_named l.self l.owner l.key.class.name) (is_key (method_key_of l.key)) l.decls l.at

abbrev pub decreases-loop-at : goal.decreases-loop-at
decreases-loop-at l = left l.decls l.at
