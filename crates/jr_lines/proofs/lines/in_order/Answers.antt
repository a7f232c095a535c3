use Rattle.std.proofs.Common.{rules}
use Rattle.std.proofs.lemmas.Fn.{dedup_same}
use Rattle.std.proofs.lemmas.List.Sorted.{IsNonDecreasingBy-from_sort_by_key}
use Rattle.jr_lines.proofs.LineOrder.{number, same, are_lines}
use Rattle.jr_lines.proofs.lines.in_order.Goals as goal

pub returns : goal.returns
returns c = are_lines _ _ _ c.requires c.sort_by_key.ensures.permutation
    (IsNonDecreasingBy-from_sort_by_key number _ c.in_ok-sort_by_key.ensures.sorted (λ a r q k. search rules))
    (dedup_same _ same _ (λ x y b f x' y' k. search rules) _ _ c.dedup_by_key.ensures.filtered)
