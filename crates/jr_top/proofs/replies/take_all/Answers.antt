use Rattle.std.proofs.Common.{◌<◌, length, rules, take}
use Rattle.jr_top.proofs.Following.{follow_step}
use Rattle.jr_top.proofs.replies.take_all.Goals as goal

pub loop-step-preserved : goal.loop-step-preserved
loop-step-preserved g c =
    let below : c.loop-step.step-index < length c.args.steps.now = search rules in
    follow_step _ c.loop-step.session _ c.args.steps.now c.loop-step.step-index c.step-item.result c.loop-step.replies.items c.push_reply.new.replies.items c.in_ok-reply.reply below c.step-item.is c.in_ok-push_reply.ensures c.loop-step.invariant c.in_ok-reply.ensures.step c.in_ok-reply.ensures.promises
