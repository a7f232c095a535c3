use Rattle.std.proofs.Common.{sym, ap, subst}
use Rattle.jr_table.specs.RowView.{row_of}
use Rattle.jr_table.specs.KeyView.{decl_of}
use Rattle.jr_table.specs.Lookup.{shown}
use Rattle.jr_bind_expr.specs.Places.{context_of}
use Rattle.jr_bind_expr.specs.Abouts.{IsAbout}
use Rattle.jr_bind_expr.proofs.Abouting.{shown_is, field_about, class_about, method_about, ctor_about}
use Rattle.jr_table.specs.declared.answers.Answer.TheVariants.{One}
use Rattle.jr_bind_expr.proofs.abouts.about_row.Goals as goal

pub returns-in-Local : goal.returns-in-Local
returns-in-Local c =
    let rows = c.args.table.now in
    subst (λ f. IsAbout rows (context_of c.args.place.now) f c.about_key.result) (sym (shown_is rows c.keeps_rows.ensures c.args.number (row_of c.args.row.now) c.requires.stands _ (ap decl_of c.in-Local.is))) c.about_key.ensures

pub returns-in-Field : goal.returns-in-Field
returns-in-Field c =
    let rows = c.args.table.now in
    subst (IsAbout rows (context_of c.args.place.now) (shown rows (One c.args.number))) (sym c.about_field.ensures)
    (field_about rows c.keeps_rows.ensures c.args.place.now c.requires.knows _ c.args.number (row_of c.args.row.now) c.requires.stands (ap decl_of c.in-Field.is))

pub returns-in-Class : goal.returns-in-Class
returns-in-Class c =
    let rows = c.args.table.now in
    subst (IsAbout rows (context_of c.args.place.now) (shown rows (One c.args.number))) (sym c.about_other.ensures)
    (class_about rows c.keeps_rows.ensures (context_of c.args.place.now) c.args.number (row_of c.args.row.now) c.requires.stands _ (ap decl_of c.in-Class.is))

pub returns-in-Method : goal.returns-in-Method
returns-in-Method c =
    let rows = c.args.table.now in
    subst (IsAbout rows (context_of c.args.place.now) (shown rows (One c.args.number))) (sym c.about_other-in-Method.ensures)
    (method_about rows c.keeps_rows.ensures (context_of c.args.place.now) c.args.number (row_of c.args.row.now) c.requires.stands _ (ap decl_of c.in-Method.is))

pub returns-in-Ctor : goal.returns-in-Ctor
returns-in-Ctor c =
    let rows = c.args.table.now in
    subst (IsAbout rows (context_of c.args.place.now) (shown rows (One c.args.number))) (sym c.about_other-in-Ctor.ensures)
    (ctor_about rows c.keeps_rows.ensures (context_of c.args.place.now) c.args.number (row_of c.args.row.now) c.requires.stands _ (ap decl_of c.in-Ctor.is))
