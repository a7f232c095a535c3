use Rattle.std.proofs.Common.{List, map, subst}
use Rattle.std.proofs.lemmas.List.Sorted.{IsPermutation-map}
use Rattle.std.specs.List.Sorted.{IsPermutation}
use Rattle.jr_bind.specs.Bounds.{Reference}
use Rattle.jr_bind.specs.BoundView.{reference_of}
use Rattle.jr_bind.proofs.references.references_of_log.Goals as goal

pub returns-clause-all : goal.returns-clause-all
returns-clause-all c =
    let sorted = c.sort.new.references.items in
    subst (λ (rs : List Reference). IsPermutation rs (map reference_of sorted)) c.in_ok-references.ensures (IsPermutation-map reference_of _ sorted c.in_ok-sort.ensures.all)
