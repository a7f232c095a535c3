use Rattle.std.proofs.Common.{codes, sym, ◌∙◌}
use Rattle.serde_json.specs.View.{view}
use Rattle.jr_script.proofs.StepLaws.{word_is}
use Rattle.jr_script.proofs.rows.read_row.Goals as goal

pub read_edit-requires : goal.read_edit-requires
read_edit-requires c = word_is (view c.args.element.now) c.args.word.now (codes "edit") c.requires (sym c.eq.ensures ∙ c.if-eq.true)

pub read_rename-requires : goal.read_rename-requires
read_rename-requires c = word_is (view c.args.element.now) c.args.word.now (codes "rename") c.requires (sym c.eq-else-eq.ensures ∙ c.if-eq-2.true)

pub read_show-requires : goal.read_show-requires
read_show-requires c = word_is (view c.args.element.now) c.args.word.now (codes "show") c.requires (sym c.eq-else-eq-2.ensures ∙ c.if-eq-3.true)

pub read_undo-requires : goal.read_undo-requires
read_undo-requires c = word_is (view c.args.element.now) c.args.word.now (codes "undo") c.requires (sym c.eq-else-eq-3.ensures ∙ c.if-eq-4.true)

pub read_redo-requires : goal.read_redo-requires
read_redo-requires c = word_is (view c.args.element.now) c.args.word.now (codes "redo") c.requires (sym c.eq-else-eq-4.ensures ∙ c.if-eq-5.true)

pub read_extract_local-requires : goal.read_extract_local-requires
read_extract_local-requires c = word_is (view c.args.element.now) c.args.word.now (codes "extract_local") c.requires (sym c.eq-else-eq-5.ensures ∙ c.if-eq-6.true)
