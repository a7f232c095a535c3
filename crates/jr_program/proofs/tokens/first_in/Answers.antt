use Rattle.std.proofs.Common.{◌≡◌, ◌<◌, ◌≤◌, length, sym, rules, arith}
use Rattle.std.specs.Prelude.{nat_lt}
use Rattle.std.proofs.lemmas.Bool.{ltb-true, ltb-false}
use Rattle.std.proofs.lemmas.List.Sorted.{IsPartitionPoint-from_clause, IsPartitionedBy-ltb}
use Rattle.jr_program.proofs.SuperWords.{here_first, here_past, none_past, all_past}
use Rattle.jr_program.proofs.tokens.first_in.Goals as goal

pub returns-in-None-clause-none : goal.returns-in-None-clause-none
returns-in-None-clause-none c =
    let parts = IsPartitionPoint-from_clause (λ n. nat_lt n c.args.span.from) c.args.places.now c.partition_point-number.result c.partition_point-number.ensures.partitioned (IsPartitionedBy-ltb (λ n. n) c.args.places.now c.args.span.from c.requires) (λ a r f k. search rules) in
    none_past c.args.places.now c.args.span.from c.partition_point-number.result c.requires parts c.args.span.to (ltb-false _ _ (sym c.in-None.ensures.lookup.0))

pub returns-then-at-span-clause-within : goal.returns-then-at-span-clause-within
returns-then-at-span-clause-within c =
    let parts = IsPartitionPoint-from_clause (λ n. nat_lt n c.args.span.from) c.args.places.now c.partition_point-number.result c.partition_point-number.ensures.partitioned (IsPartitionedBy-ltb (λ n. n) c.args.places.now c.args.span.from c.requires) (λ a r f k. search rules) in
    let less : c.partition_point-number.result < length c.args.places.now = ltb-true _ _ (sym c.in-Some.ensures.lookup.0) in
    (here_past c.args.places.now c.args.span.from c.partition_point-number.result c.requires parts c.in-Some.at.now less c.in-Some.ensures.lookup.1, c.if-at-span.true)

pub returns-then-at-span-clause-first : goal.returns-then-at-span-clause-first
returns-then-at-span-clause-first c =
    let parts = IsPartitionPoint-from_clause (λ n. nat_lt n c.args.span.from) c.args.places.now c.partition_point-number.result c.partition_point-number.ensures.partitioned (IsPartitionedBy-ltb (λ n. n) c.args.places.now c.args.span.from c.requires) (λ a r f k. search rules) in
    let less : c.partition_point-number.result < length c.args.places.now = ltb-true _ _ (sym c.in-Some.ensures.lookup.0) in
    here_first c.args.places.now c.args.span.from c.partition_point-number.result c.requires parts c.in-Some.at.now less c.in-Some.ensures.lookup.1

pub returns-else-at-span-clause-none : goal.returns-else-at-span-clause-none
returns-else-at-span-clause-none c =
    let parts = IsPartitionPoint-from_clause (λ n. nat_lt n c.args.span.from) c.args.places.now c.partition_point-number.result c.partition_point-number.ensures.partitioned (IsPartitionedBy-ltb (λ n. n) c.args.places.now c.args.span.from c.requires) (λ a r f k. search rules) in
    let less : c.partition_point-number.result < length c.args.places.now = ltb-true _ _ (sym c.in-Some.ensures.lookup.0) in
    let past : c.args.span.to ≤ c.in-Some.at.now = omega (arith, c.if-at-span.false) in
    all_past c.args.places.now c.args.span.from c.partition_point-number.result c.requires parts c.in-Some.at.now c.args.span.to less c.in-Some.ensures.lookup.1 past
