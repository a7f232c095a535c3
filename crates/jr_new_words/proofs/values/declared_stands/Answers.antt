use Rattle.std.proofs.Common.{List, refl, sym, ap, subst}
use Rattle.std.specs.Result.{IfOk}
use Rattle.jr_table.specs.Rows.{Row}
use Rattle.jr_table.specs.Conditions.{AreRows}
use Rattle.jr_table.specs.Found.{one}
use Rattle.jr_table.specs.KeyView.{decl_of}
use Rattle.jr_table.specs.RowView.{row_of}
use Rattle.jr_table.specs.TypeView.{class_key_of}
use Rattle.jr_table.specs.declared.decls.Decl as raw
use Rattle.jr_images.specs.Words.{class_name, neither}
use Rattle.jr_new_words.specs.Mappings.{StandsSo}
use Rattle.jr_new_words.specs.FrontView.{in_front_of}
use Rattle.jr_new_words.specs.Scopes.{rows_of, mapping_of, context_of}
use Rattle.jr_new_words.proofs.ValuesInFront as values
use Rattle.jr_new_words.proofs.values.declared_stands.Goals as goal

pub returns-in-Class : goal.returns-in-Class
returns-in-Class c =
    let s = c.args.scopes.now in
    subst (λ (d : raw.Decl). StandsSo (rows_of s) (mapping_of s) (context_of s) (one (decl_of d)) (class_name (class_key_of c.in-Class.key))) (sym c.in-Class.is) refl

pub returns-in-Field : goal.returns-in-Field
returns-in-Field c =
    let s = c.args.scopes.now in
    let are = subst (λ (rows : List Row). AreRows rows) c.requires.kept.rows c.keeps_rows.ensures in
    subst (λ (d : raw.Decl). StandsSo (rows_of s) (mapping_of s) (context_of s) (one (decl_of d)) (in_front_of c.field_value.result)) (sym c.in-Field.is)
    (values.field_value (rows_of s) (mapping_of s) (context_of s) are _ c.args.number (row_of c.args.row.now) c.requires.row (ap decl_of c.in-Field.is) (in_front_of c.field_value.result) c.field_value.ensures)

pub returns-in-Local : goal.returns-in-Local
returns-in-Local c =
    let s = c.args.scopes.now in
    subst (λ (d : raw.Decl). IfOk c.local_stands.result (λ w. StandsSo (rows_of s) (mapping_of s) (context_of s) (one (decl_of d)) (in_front_of w))) (sym c.in-Local.is) c.local_stands.ensures

pub returns-in-Method : goal.returns-in-Method
returns-in-Method c =
    let s = c.args.scopes.now in
    subst (λ (d : raw.Decl). StandsSo (rows_of s) (mapping_of s) (context_of s) (one (decl_of d)) neither) (sym c.in-Method.is) ((λ b e. cc), (λ b v. v))

pub returns-in-Ctor : goal.returns-in-Ctor
returns-in-Ctor c =
    let s = c.args.scopes.now in
    subst (λ (d : raw.Decl). StandsSo (rows_of s) (mapping_of s) (context_of s) (one (decl_of d)) neither) (sym c.in-Ctor.is) ((λ b e. cc), (λ b v. v))
