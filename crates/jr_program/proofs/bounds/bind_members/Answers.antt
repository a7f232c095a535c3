use Rattle.std.proofs.Common.{◌≡◌, ◌≤◌, ◌+◌, arith}
use Rattle.jr_members.specs.PartView.{written_of}
use Rattle.jr_program.specs.Members.{CanBind}
use Rattle.jr_program.proofs.Membership.{each_map}
use Rattle.jr_program.proofs.Binding.{known_step, each_step}
use Rattle.jr_program.proofs.FileOrder.{order_grows}
use Rattle.jr_program.proofs.bounds.bind_members.Goals as goal

pub push_bound-requires : goal.push_bound-requires
push_bound-requires g c = each_map written_of (CanBind c.args.table.now c.args.tokens.now) c.args.written.now c.loop-member.member-index c.member-item.result c.member-item.result c.requires c.loop-member-test.true c.member-item.is

pub loop-member-preserved : goal.loop-member-preserved
loop-member-preserved g c =
    let least = c.loop-member.invariant.1.0 in
    let most = c.loop-member.invariant.1.1 in
    let more = c.push_bound.ensures.least in
    let one = c.push_bound.ensures.most in
    let known = c.in_ok-push_bound.ensures.known in (
      known_step written_of c.args.table.now c.args.tokens.now c.args.written.now c.loop-member.member-index c.member-item.result _ _ c.loop-member-test.true c.member-item.is c.loop-member.invariant.0 known,
      (omega (arith, least, more), omega (arith, most, one)),
      (
        order_grows written_of c.args.written.now c.loop-member.member-index c.member-item.result _ _ c.loop-member-test.true c.member-item.is known.behind c.loop-member.invariant.2.0,
        each_step written_of c.args.table.now c.args.tokens.now c.args.written.now c.loop-member.member-index c.member-item.result _ _ c.loop-member-test.true c.member-item.is c.loop-member.invariant.2.1 known,
      ),
    )

pub returns-clause-order : goal.returns-clause-order
returns-clause-order g c = λ up. (c.loop-member.invariant.2.0 up).0
