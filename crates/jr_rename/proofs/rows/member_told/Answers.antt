use Rattle.std.proofs.Common.{List, map, subst}
use Rattle.std.specs.Prelude.{option_map}
use Rattle.std.proofs.lemmas.Result.{IfOk-weaker}
use Rattle.jr_table.specs.Rows.{Row}
use Rattle.jr_table.specs.RowView.{row_of}
use Rattle.jr_table.specs.KeyView.{decl_of}
use Rattle.jr_rename.specs.RowClashes.{OneTakesPlace}
use Rattle.jr_rename.specs.RowAnswers.{IsFirstOf}
use Rattle.jr_rename.proofs.RowLaws.{first_copied}
use Rattle.jr_rename.proofs.rows.member_told.Goals as goal

pub returns : goal.returns
returns c =
    let Has = OneTakesPlace (map decl_of c.args.renamed.now) c.args.new.now in
    IfOk-weaker c.copy_of.result _ _ (λ o e.
    subst (λ (rows : List Row). IsFirstOf rows Has (option_map decl_of o)) c.rows.ensures
    (first_copied (map row_of c.rows.result.now) Has c.member_clash.result c.member_clash.ensures.some c.member_clash.ensures.none (option_map decl_of o) e)) c.copy_of.ensures
