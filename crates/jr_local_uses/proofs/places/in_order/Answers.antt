use Rattle.std.proofs.Common.{ℕ}
use Rattle.std.proofs.lemmas.List.Sorted.{IsNonDecreasingBy-from_sort}
use Rattle.jr_local_uses.proofs.Ordered.{sorted_is}
use Rattle.jr_local_uses.proofs.places.in_order.Goals as goal

pub returns : goal.returns
returns c =
    let ys = c.sort.new.self.items in
    sorted_is c.args.places.items ys c.sort.ensures.permutation (IsNonDecreasingBy-from_sort (λ (n : ℕ). n) ys c.in_ok-sort.ensures.sorted)
