use Rattle.std.proofs.Common.{sym, ap, ◌∙◌}
use Rattle.std.specs.Prelude.{option_and_then}
use Rattle.jr_table.specs.Lookup.{decl_at}
use Rattle.jr_bind.proofs.references.row_target.Goals as goal

pub returns-in-None : goal.returns-in-None
returns-in-None c = λ rows k. sym (ap (option_and_then (decl_at rows)) c.in-None.is) ∙ c.one_row.ensures rows

pub returns-in-Some : goal.returns-in-Some
returns-in-Some c = λ rows k. sym (ap (option_and_then (decl_at rows)) c.in-Some.is) ∙ c.one_row.ensures rows
