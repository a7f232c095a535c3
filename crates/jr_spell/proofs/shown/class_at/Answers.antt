use Rattle.std.proofs.Common.{sym, ap, ◌∙◌}
use Rattle.jr_table.specs.Lookup.{shown}
use Rattle.jr_table.specs.Meanings.{class_found}
use Rattle.jr_spell.proofs.Founds.{one_shown, no_class_nothing, no_class_many, no_class_not_accessible, no_class_from_static}
use Rattle.jr_spell.proofs.shown.class_at.Goals as goal

pub returns-in-One : goal.returns-in-One
returns-in-One c = c.class_of_row.ensures ∙ ap class_found (sym (one_shown c.args.table.now c.in-One.number)) ∙ ap (λ a. class_found (shown c.args.table.now a)) (sym c.in-One.is)

pub returns-in-Nothing : goal.returns-in-Nothing
returns-in-Nothing c = no_class_nothing c.args.table.now ∙ ap (λ a. class_found (shown c.args.table.now a)) (sym c.in-Nothing.is)

pub returns-in-Many : goal.returns-in-Many
returns-in-Many c = no_class_many c.args.table.now c.in-Many.field-0 c.in-Many.field-1 ∙ ap (λ a. class_found (shown c.args.table.now a)) (sym c.in-Many.is)

pub returns-in-NotAccessible : goal.returns-in-NotAccessible
returns-in-NotAccessible c = no_class_not_accessible c.args.table.now c.in-NotAccessible.field-0 ∙ ap (λ a. class_found (shown c.args.table.now a)) (sym c.in-NotAccessible.is)

pub returns-in-FromStatic : goal.returns-in-FromStatic
returns-in-FromStatic c = no_class_from_static c.args.table.now c.in-FromStatic.field-0 ∙ ap (λ a. class_found (shown c.args.table.now a)) (sym c.in-FromStatic.is)
