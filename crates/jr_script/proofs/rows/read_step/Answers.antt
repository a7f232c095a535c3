use Rattle.std.proofs.Common.{sym}
use Rattle.serde_json.specs.Find.{get}
use Rattle.serde_json.specs.View.{view}
use Rattle.jr_script.specs.Rows.{word_name}
use Rattle.jr_script.proofs.MemberLaws.{string_from}
use Rattle.jr_script.proofs.rows.read_step.Goals as goal

pub read_row-requires : goal.read_row-requires
read_row-requires c = string_from (get word_name (view c.args.element.now)) c.in-Some.word.now (sym c.in-Some.ensures)
