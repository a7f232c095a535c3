use Rattle.std.specs.Prelude.{option_map}
use Rattle.std.proofs.lemmas.Result.{IfOk-weaker}
use Rattle.jr_table.specs.KeyView.{decl_of}
use Rattle.jr_table.specs.TypeView.{class_key_of}
use Rattle.jr_rename.proofs.RowLaws.{none_reserved, behind_reserved}
use Rattle.jr_rename.proofs.rows.class_told.Goals as goal

pub returns : goal.returns
returns c =
    let rows = c.args.table.now in
    let new = c.args.new.now in
    let free = none_reserved rows new (class_key_of c.in_ok-runnable.runnable) c.is_reserved.result c.in_ok-runnable.ensures c.is_reserved.ensures c.if-is_reserved.false in
    IfOk-weaker c.first_of_class.result _ _ (λ o h. behind_reserved rows (class_key_of c.args.class.now) new free (option_map decl_of o) h) c.first_of_class.ensures
