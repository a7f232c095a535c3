use Rattle.std.proofs.Common.{refl, ◌∙◌}
use Rattle.jr_paths_nodes.proofs.Lending.{on_some_also}
use Rattle.jr_paths_nodes.proofs.MemberWrites.{class_write, class_same, class_get}
use Rattle.jr_paths_nodes.proofs.member_writes.member_of_class.Goals as goal

pub returns : goal.returns
returns g c =
    let x = c.args.class.now in
    let first = c.begin_of_members-first.result in
    let number = c.args.number in
    let begins = c.begin_of_members-first.ensures in (
      (
        refl,
        λ w. on_some_also c.nth_member.result (c.nth_member.follows.holds w) (class_write _ x (c.nth_member.follows.lender w) first number w begins),
        class_same _ x c.nth_member.follows.lender-at-none c.nth_member.follows.holds-at-none,
      ),
      record { writes_back = tt; value = c.nth_member.ensures.value ∙ class_get _ x first number begins },
    )
