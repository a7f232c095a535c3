use Rattle.std.proofs.Common.{◌≡◌, ◌<◌, ◌≤◌, ◌-◌, List, length, drop, take, sym, ap, subst, ◌∙◌, rules, arith}
use Rattle.std.specs.Prelude.{nat_lt, nat_le}
use Rattle.std.specs.List.Sorted.{IsPartitionPoint}
use Rattle.std.proofs.lemmas.List.{length-drop, take_all}
use Rattle.std.proofs.lemmas.List.Sorted.{IsPartitionPoint-from_clause, IsPartitionedBy-ltb, IsPartitionedBy-leb, IsNonDecreasingBy-drop}
use Rattle.jr_program.specs.declared.bounds.MemberBound.{MemberBound}
use Rattle.jr_program.specs.Members.{AreInFileOrder}
use Rattle.jr_program.proofs.FileOrder.{UpTo, Beyond, own_members}
use Rattle.jr_program.proofs.bounds.members_of_file.Goals as goal

pub returns : goal.returns
returns c =
    let xs = c.args.members.now in
    let i = c.partition_point-first.result in
    let k = c.partition_point-count.result in
    let behind = drop i xs in
    let rest = take (length xs - i) behind in
    let n = length-drop i xs in
    let same : rest ≡ behind = take_all (length xs - i) behind (omega (arith, n)) in
    let first = IsPartitionPoint-from_clause (λ (b : MemberBound). nat_lt b.file c.args.file) xs i c.partition_point-first.ensures.partitioned (IsPartitionedBy-ltb (λ (b : MemberBound). b.file) xs c.args.file c.requires) (λ a r f k. search rules) in
    let order : AreInFileOrder rest = subst AreInFileOrder (sym same) (IsNonDecreasingBy-drop (λ (b : MemberBound). b.file) i xs c.requires) in
    let count = IsPartitionPoint-from_clause (λ (b : MemberBound). nat_le b.file c.args.file) rest k c.partition_point-count.ensures.partitioned (IsPartitionedBy-leb (λ (b : MemberBound). b.file) rest c.args.file order) (λ a r f k. search rules) in
    ap (take k) same ∙ sym (own_members c.args.file xs i k first (subst (λ (ys : List MemberBound). IsPartitionPoint (UpTo c.args.file) (Beyond c.args.file) ys k) same count))
