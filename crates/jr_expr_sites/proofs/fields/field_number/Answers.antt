use Rattle.std.proofs.Common.{sym, ◌∙◌}
use Rattle.jr_table.specs.Entries.{entries_of}
use Rattle.jr_table.specs.KeyView.{field_key_of}
use Rattle.jr_table.specs.Looking.{is_field, own_row}
use Rattle.jr_expr_sites.proofs.FieldRows.{no_class, own_is}
use Rattle.jr_expr_sites.proofs.fields.field_number.Goals as goal

pub returns-in-None : goal.returns-in-None
returns-in-None c =
    sym (no_class c.args.table.now c.keeps_rows.ensures (field_key_of c.args.key.now) (sym c.in-None.ensures))

pub returns-in-Some : goal.returns-in-Some
returns-in-Some c =
    c.own.ensures ∙ (λ i. own_row (entries_of c.args.table.now) (is_field (c.as_str.ensures i)) c.in-Some.class)
    ∙ own_is c.args.table.now c.keeps_rows.ensures (field_key_of c.args.key.now) c.in-Some.class (sym c.in-Some.ensures)
