use Rattle.std.proofs.Common.{List, sym, subst}
use Rattle.jr_dependences.specs.declared.summing.Sums.{Sums}
use Rattle.jr_dependences.specs.Summed.{AreKept}
use Rattle.jr_dependences.proofs.SumLaws.{some_holds}
use Rattle.jr_dependences.proofs.together.weigh_other.Goals as goal

pub weigh_kept-requires-clause-kept : goal.weigh_kept-requires-clause-kept
weigh_kept-requires-clause-kept c = subst (λ (l : List Sums). AreKept c.args.of.now.sites.now c.args.of.now.lens.now l) (sym c.as_slice.ensures.value) c.requires.kept

pub returns-in-Some-clause-weighs : goal.returns-in-Some-clause-weighs
returns-in-Some-clause-weighs c edges known = some_holds _ _ _ c.in-Some.is (c.in_ok-known.ensures edges known)
