use Rattle.std.proofs.Common.{◌≡◌, take, map}
use Rattle.serde_json.specs.View.{view}
use Rattle.jr_names.specs.ReplyView.{reply_of}
use Rattle.jr_script.specs.Reports.{object_of}
use Rattle.jr_script.proofs.reports.reply_values.Given as goal

abbrev pub invariant-loop-reply : goal.invariant-loop-reply
invariant-loop-reply l = map view l.values.items ≡ map (λ r. object_of l.files (reply_of r)) (take l.reply-index l.replies)
