use Rattle.std.proofs.Common.{map, take}
use Rattle.jr_names.specs.ReplyView.{reply_of}
use Rattle.jr_top.specs.Scripts.{Follow}
use Rattle.jr_top.proofs.replies.take_all.Given as goal

-- the session took the steps so far, with these replies
abbrev pub invariant-loop-step : goal.invariant-loop-step
invariant-loop-step g l = Follow l.fn.session (take l.step-index l.steps) (map reply_of l.replies.items) l.session
