use Rattle.std.proofs.Common.{◌≡◌, None, sym, ap, subst, ◌∙◌}
use Rattle.jr_table.specs.RowView.{row_of}
use Rattle.std.specs.Prelude.{slice_get, option_map}
use Rattle.jr_table.specs.Lookup.{shown}
use Rattle.jr_table.specs.declared.answers.Answer.TheVariants.{One}
use Rattle.jr_bind_expr.specs.Places.{context_of}
use Rattle.jr_bind_expr.specs.Abouts.{IsAbout}
use Rattle.jr_bind_expr.proofs.Abouting.{none_about}
use Rattle.jr_bind_expr.proofs.abouts.about_number.Goals as goal

pub returns-in-None : goal.returns-in-None
returns-in-None c =
    let rows = c.args.table.now in
    let missing : slice_get rows c.args.number ≡ None = sym c.row_at.ensures ∙ ap (option_map (λ r. row_of r.now)) c.in-None.is in
    subst (IsAbout rows (context_of c.args.place.now) (shown rows (One c.args.number))) (sym c.nothing.ensures) (none_about rows (context_of c.args.place.now) c.args.number missing)
