use Rattle.std.proofs.Common.{sym, ap, ◌∙◌}
use Rattle.std.specs.Prelude.{option_map}
use Rattle.jr_table.specs.KeyView.{decl_of}
use Rattle.jr_members.specs.PartView.{written_of}
use Rattle.jr_cursor.proofs.Numbering.{local_within}
use Rattle.jr_cursor.proofs.within.has_within.Goals as goal

pub returns-in-Some : goal.returns-in-Some
returns-in-Some c =
    local_within c.args.table.now c.keeps_rows.ensures c.args.at (written_of c.args.written.now) c.args.bound.now (decl_of c.in-Some.decl) (sym c.in_ok-decl.ensures ∙ ap (option_map decl_of) c.in-Some.is)
