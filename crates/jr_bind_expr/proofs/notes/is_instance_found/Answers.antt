use Rattle.std.proofs.Common.{sym, ap, ◌∙◌}
use Rattle.std.specs.Prelude.{option_and_then}
use Rattle.jr_table.specs.Lookup.{decl_at, shown}
use Rattle.jr_table.specs.Notes.{is_instance_decl}
use Rattle.jr_bind_expr.proofs.Showing.{none_tested, instance_tested}
use Rattle.jr_bind_expr.proofs.notes.is_instance_found.Goals as goal

pub returns-in-None : goal.returns-in-None
returns-in-None c =
    let rows = c.args.table.now in
    none_tested (is_instance_decl rows) (shown rows c.args.answer) (sym (ap (option_and_then (decl_at rows)) c.in-None.is) ∙ c.one_row.ensures rows)

pub returns-in-Some : goal.returns-in-Some
returns-in-Some c =
    let rows = c.args.table.now in
    c.is_instance_row.ensures ∙ instance_tested rows c.keeps_rows.ensures (shown rows c.args.answer) c.in-Some.number (sym (ap (option_and_then (decl_at rows)) c.in-Some.is) ∙ c.one_row.ensures rows)
