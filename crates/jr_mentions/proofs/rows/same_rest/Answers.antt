use Rattle.jr_table.specs.RowView.{row_of}
use Rattle.jr_mentions.proofs.RowTests.{rest_holds}
use Rattle.jr_mentions.proofs.rows.same_rest.Goals as goal

pub returns : goal.returns
returns c = rest_holds (row_of c.args.row.now) (row_of c.args.other.now) c.same_words-words.result c.same_type-ty.result c.same_parent-parent.result c.same_init-init.result
    c.same_words-words.ensures c.same_type-ty.ensures c.same_parent-parent.ensures c.same_init-init.ensures
