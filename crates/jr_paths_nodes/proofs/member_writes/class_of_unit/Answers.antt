use Rattle.std.proofs.Common.{refl, ◌∙◌}
use Rattle.jr_paths_nodes.proofs.Lending.{on_some_also}
use Rattle.jr_paths_nodes.proofs.MemberWrites.{unit_write, unit_same, unit_get}
use Rattle.jr_paths_nodes.proofs.member_writes.class_of_unit.Goals as goal

pub returns : goal.returns
returns g c =
    let u = c.args.unit.now in
    let first = c.len-first.result in
    let number = c.args.number in
    let counted = c.len-first.ensures in (
      (
        refl,
        λ w. on_some_also c.nth_class.result (c.nth_class.follows.holds w) (unit_write _ u (c.nth_class.follows.lender w) first number w counted),
        unit_same _ u c.nth_class.follows.lender-at-none c.nth_class.follows.holds-at-none,
      ),
      record { writes_back = tt; value = c.nth_class.ensures.value ∙ unit_get _ u first number counted },
    )
