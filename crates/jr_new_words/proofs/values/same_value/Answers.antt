use Rattle.std.proofs.Common.{◌≡◌, Some, None, ap, sym, ◌∙◌}
use Rattle.jr_table.specs.Decls.{class_decl}
use Rattle.jr_table.specs.TypeView.{class_key_of}
use Rattle.jr_new_words.specs.Valued.{of_decl}
use Rattle.jr_new_words.proofs.Images.{same_class}
use Rattle.jr_new_words.proofs.Parents.{row_stands, the_number}
use Rattle.jr_new_words.proofs.values.same_value.Goals as goal

pub returns-in-None : goal.returns-in-None
returns-in-None c =
    let rows = c.args.table.now in
    let d = class_decl (class_key_of c.args.class.now) in
    let e : None ≡ Some c.requires.0 = c.in-None.ensures ∙ the_number rows c.keeps_rows.ensures d c.requires.0 c.requires.1 in
    absurd cc

pub returns-in-Some : goal.returns-in-Some
returns-in-Some c =
    let rows = c.args.table.now in
    let k = class_key_of c.args.class.now in
    c.row_value.ensures ∙ ap of_decl (same_class rows k c.in-Some.number (row_stands rows (class_decl k) c.in-Some.number (sym c.in-Some.ensures)))
