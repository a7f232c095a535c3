-- The pure replies and outcomes that Rust values stand for.
use Rattle.std.specs.Prelude.{option_map}
use Rattle.jr_names.specs.declared.replies.Reply as raw_reply
use Rattle.jr_names.specs.declared.replies.Reply.TheVariants as reply
use Rattle.jr_names.specs.declared.replies.Outcome as raw_outcome
use Rattle.jr_names.specs.declared.replies.Outcome.TheVariants as outcome
use Rattle.jr_names.specs.SiteView.{pair_of}
use Rattle.jr_names.specs.RefusalView.{refusal_of}
use Rattle.jr_names.specs.Replies.{Reply, edited, refactored, shown, undone, redone, refused}
use Rattle.jr_names.specs.Replies.{Outcome, planned, not_planned}

abbrev pub reply_of : raw_reply.Reply → Reply
reply_of reply.Edited = edited
reply_of (reply.Refactored files respelled) = refactored files respelled
reply_of (reply.Shown lines) = shown lines
reply_of reply.Undone = undone
reply_of reply.Redone = redone
reply_of (reply.Refused x) = refused (refusal_of x)

abbrev pub outcome_of : raw_outcome.Outcome → Outcome
outcome_of (outcome.Planned edits renaming respelled lost) =
    planned edits renaming respelled (option_map pair_of lost)
outcome_of (outcome.Refused x) = not_planned (refusal_of x)
