use Rattle.std.proofs.Common.{List, subst}
use Rattle.std.specs.Prelude.{option_map}
use Rattle.std.proofs.lemmas.Result.{IfOk-weaker}
use Rattle.jr_table.specs.Rows.{Row}
use Rattle.jr_table.specs.KeyView.{decl_of}
use Rattle.jr_members.specs.PartView.{written_of}
use Rattle.jr_cursor.specs.Names.{Finds, HasThere}
use Rattle.jr_cursor.proofs.Numbering.{file_finds}
use Rattle.jr_cursor.proofs.targets.has_in_file.Goals as goal

pub returns-then-written-file : goal.returns-then-written-file
returns-then-written-file g c =
    let p = g.V.View.program c.args.view.now in
    let w = written_of c.args.written.now in
    let b = c.bound.result.now in
    let at = c.args.at in
    IfOk-weaker c.has_there.result _ _ (λ o h.
    file_finds p c.args.file at c.args.number w b c.bound.ensures c.if-written-file.true (option_map decl_of o)
    (subst (λ (rows : List Row). Finds rows (HasThere at w b) (option_map decl_of o)) c.table.ensures h)) c.has_there.ensures
