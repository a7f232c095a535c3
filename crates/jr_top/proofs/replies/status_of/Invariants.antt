use Rattle.jr_top.proofs.Replying.{NoneYet}
use Rattle.jr_top.proofs.replies.status_of.Given as goal

-- no reply so far is a refusal
abbrev pub invariant-loop-reply : goal.invariant-loop-reply
invariant-loop-reply l = NoneYet l.replies l.reply-index
