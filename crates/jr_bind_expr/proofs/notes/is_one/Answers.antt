use Rattle.std.proofs.Common.{sym, ap, ◌∙◌}
use Rattle.std.specs.Prelude.{option_and_then, is_some}
use Rattle.jr_table.specs.Lookup.{decl_at}
use Rattle.jr_bind_expr.proofs.notes.is_one.Goals as goal

pub returns-in-None : goal.returns-in-None
returns-in-None c =
    let rows = c.args.table.now in
    ap is_some (sym (ap (option_and_then (decl_at rows)) c.in-None.is) ∙ c.one_row.ensures rows)

pub returns-in-Some : goal.returns-in-Some
returns-in-Some c =
    let rows = c.args.table.now in
    c.is_row.ensures ∙ ap is_some (sym (ap (option_and_then (decl_at rows)) c.in-Some.is) ∙ c.one_row.ensures rows)
