use Rattle.jr_table.specs.TypeView.{class_key_of}
use Rattle.jr_table.specs.Decls.{class_decl}
use Rattle.std.proofs.Common.{sym}
use Rattle.jr_new_words.specs.FrontView.{in_front_of}
use Rattle.jr_new_words.specs.Scopes.{rows_of, mapping_of}
use Rattle.jr_new_words.proofs.Parents.{row_stands}
use Rattle.jr_new_words.proofs.ValuesInFront as values
use Rattle.jr_new_words.proofs.values.class_value.Goals as goal

pub image_value-requires-clause-row : goal.image_value-requires-clause-row
image_value-requires-clause-row c = row_stands (rows_of c.args.scopes.now) (class_decl (class_key_of c.args.class.now)) c.in-Some.number (sym c.in-Some.ensures)

pub returns-in-None : goal.returns-in-None
returns-in-None c =
    let s = c.args.scopes.now in
    values.no_row_value (rows_of s) (mapping_of s) c.keeps_rows.ensures (class_key_of c.args.class.now) c.in-None.ensures

pub returns-in-Some : goal.returns-in-Some
returns-in-Some c =
    let s = c.args.scopes.now in
    values.row_value (rows_of s) (mapping_of s) (class_key_of c.args.class.now) c.in-Some.number c.in-Some.ensures (in_front_of c.image_value.result) c.image_value.ensures
