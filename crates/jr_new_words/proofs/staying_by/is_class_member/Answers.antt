use Rattle.std.proofs.Common.{sym, ◌∙◌}
use Rattle.jr_table.specs.KeyView.{decl_of}
use Rattle.jr_new_words.proofs.UnchangedBy.{no_instance, not_true}
use Rattle.jr_new_words.proofs.staying_by.is_class_member.Goals as goal

pub returns : goal.returns
returns c = λ t. no_instance c.args.table.now c.args.number (decl_of c.args.decl.now) c.keeps_rows.ensures (sym c.is_instance.ensures ∙ not_true c.is_instance.result t) c.requires
