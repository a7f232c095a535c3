use Rattle.std.proofs.Common.{map, sym, ◌∙◌}
use Rattle.jr_table.specs.KeyView.{decl_of}
use Rattle.jr_table.specs.RowView.{row_of}
use Rattle.jr_dispatch.proofs.Rounds.{none_more, one_pushed}
use Rattle.jr_dispatch.proofs.families.push_below.Goals as goal

pub returns : goal.returns
returns c =
    one_pushed c.args.table.now c.args.over.now.name c.args.over.now.params c.args.top c.args.number c.args.decls.now.items _ _ (row_of c.in-Some.row.now)
    c.in_ok-push.ensures.items c.in_ok-decl.ensures (sym c.in-Some.ensures) (c.is_below.ensures.0 c.if-not-is_below.false)
