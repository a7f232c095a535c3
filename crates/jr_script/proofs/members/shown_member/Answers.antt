use Rattle.std.proofs.Common.{sym}
use Rattle.serde_json.specs.Find.{get}
use Rattle.serde_json.specs.View.{view}
use Rattle.jr_script.proofs.MemberLaws.{string_from}
use Rattle.jr_script.proofs.members.shown_member.Goals as goal

pub shown_word-requires : goal.shown_word-requires
shown_word-requires c = string_from (get c.args.name.now (view c.args.element.now)) c.in-Some.word.now (sym c.in-Some.ensures)
