use Rattle.jr_table.specs.Decls.{class_decl}
use Rattle.jr_table.specs.TypeView.{class_key_of}
use Rattle.jr_rename.proofs.RowLaws.{lacks_row}
use Rattle.jr_rename.proofs.rows.is_reserved.Goals as goal

pub returns : goal.returns
returns c =
    let k = class_key_of c.args.class.now in
    lacks_row c.args.table.now (class_decl k) c.args.name.now k.name c.eq.result c.is_none.result c.class_number.result c.eq.ensures c.class_number.ensures c.is_none.ensures
