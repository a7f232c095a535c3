use Rattle.std.proofs.Common.{◌<◌, length, [], sym, ◌∙◌, ap, rules, arith}
use Rattle.std.specs.Prelude.{nat_lt}
use Rattle.std.proofs.lemmas.Bool.{ltb-true, ltb-false}
use Rattle.std.proofs.lemmas.List.Sorted.{IsPartitionPoint-from_clause, IsPartitionedBy-ltb}
use Rattle.jr_moved_texts.specs.Spaces.{token_in}
use Rattle.jr_put_texts.proofs.InOrder.{to_of, ending_is, rises_to, ascending, is_found, none_behind, none_there}
use Rattle.jr_put_texts.proofs.neighbours.ending_at.Goals as goal

pub returns-in-None : goal.returns-in-None
returns-in-None c =
    let rises = rises_to c.requires.0 c.items_are_placed.ensures.items [] c.args.items.now 0 c.requires.1 (omega arith) in
    let parts = IsPartitionPoint-from_clause (λ x. nat_lt (to_of x) c.args.at) c.args.items.now c.partition_point-number.result c.partition_point-number.ensures.partitioned (IsPartitionedBy-ltb to_of c.args.items.now c.args.at (ascending to_of c.args.items.now 0 rises)) (λ a r f k. search rules) in
    sym (ending_is c.args.at c.args.items.now ∙ none_behind to_of c.args.items.now 0 c.args.at c.partition_point-number.result rises parts (ltb-false _ _ (sym c.in-None.ensures.lookup.0)))

pub returns-then-item-at : goal.returns-then-item-at
returns-then-item-at c =
    let rises = rises_to c.requires.0 c.items_are_placed.ensures.items [] c.args.items.now 0 c.requires.1 (omega arith) in
    let within : c.partition_point-number.result < length c.args.items.now = ltb-true _ _ (sym c.in-Some.ensures.lookup.0) in
    let found = is_found to_of c.args.items.now 0 c.partition_point-number.result c.args.at c.in-Some.item.now rises within (ap to_of (sym c.in-Some.ensures.lookup.1) ∙ c.if-item-at.true) in
    c.token_of.ensures ∙ ap (λ x. token_in x.kind) c.in-Some.ensures.lookup.1 ∙ sym (ending_is c.args.at c.args.items.now ∙ found)

pub returns-else-item-at : goal.returns-else-item-at
returns-else-item-at c =
    let rises = rises_to c.requires.0 c.items_are_placed.ensures.items [] c.args.items.now 0 c.requires.1 (omega arith) in
    let parts = IsPartitionPoint-from_clause (λ x. nat_lt (to_of x) c.args.at) c.args.items.now c.partition_point-number.result c.partition_point-number.ensures.partitioned (IsPartitionedBy-ltb to_of c.args.items.now c.args.at (ascending to_of c.args.items.now 0 rises)) (λ a r f k. search rules) in
    let within : c.partition_point-number.result < length c.args.items.now = ltb-true _ _ (sym c.in-Some.ensures.lookup.0) in
    sym (ending_is c.args.at c.args.items.now ∙ none_there to_of c.args.items.now 0 c.args.at c.partition_point-number.result rises parts c.in-Some.item.now within c.in-Some.ensures.lookup.1 c.if-item-at.false)
