use Rattle.std.proofs.Common.{sym}
use Rattle.jr_table.specs.Decls.{method_decl}
use Rattle.jr_table.specs.KeyView.{method_key_of}
use Rattle.jr_table.proofs.RowLaws.{number_none}
use Rattle.jr_table.proofs.Border.{no_over, no_under, is_over}
use Rattle.jr_table.proofs.tables.Table.overrides.Goals as goal

pub returns-in_default : goal.returns-in_default
returns-in_default c = (λ t. absurd cc, λ o. absurd (number_none c.args.self.now (method_decl (method_key_of c.args.sub.now)) (sym c.in_default.ensures) o.j o.over))

pub returns-in_default-method_number : goal.returns-in_default-method_number
returns-in_default-method_number c = (λ t. absurd cc, λ o. absurd (number_none c.args.self.now (method_decl (method_key_of c.args.sup.now)) (sym c.in_default-method_number.ensures) o.k o.under))

pub returns-in_default-virtual_entry : goal.returns-in_default-virtual_entry
returns-in_default-virtual_entry c =
    (λ t. absurd cc, λ o. absurd (no_over c.args.self.now c.keeps_rows.ensures (method_key_of c.args.sub.now) (method_key_of c.args.sup.now) c.in-Some.sub (sym c.in-Some.ensures) (sym c.in_default-virtual_entry.ensures) o))

pub returns-in_default-virtual_entry-2 : goal.returns-in_default-virtual_entry-2
returns-in_default-virtual_entry-2 c =
    (λ t. absurd cc, λ o. absurd (no_under c.args.self.now c.keeps_rows.ensures (method_key_of c.args.sub.now) (method_key_of c.args.sup.now) c.in-Some-method_number.sup (sym c.in-Some-method_number.ensures) (sym c.in_default-virtual_entry-2.ensures) o))

pub returns : goal.returns
returns c =
    is_over c.args.self.now c.keeps_rows.ensures (method_key_of c.args.sub.now) (method_key_of c.args.sup.now) c.in-Some.sub c.in-Some-method_number.sup c.in-Some-virtual_entry.over.now c.in-Some-virtual_entry-2.under.now
    c.overrides_at.result (sym c.in-Some.ensures) (sym c.in-Some-method_number.ensures) (sym c.in-Some-virtual_entry.ensures) (sym c.in-Some-virtual_entry-2.ensures) c.overrides_at.ensures
