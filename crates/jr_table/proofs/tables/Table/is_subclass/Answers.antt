use Rattle.std.proofs.Common.{sym}
use Rattle.jr_table.specs.Decls.{class_decl}
use Rattle.jr_table.specs.TypeView.{class_key_of}
use Rattle.jr_table.proofs.RowLaws.{number_none}
use Rattle.jr_table.proofs.Border.{is_below}
use Rattle.jr_table.proofs.tables.Table.is_subclass.Goals as goal

pub returns-in_default : goal.returns-in_default
returns-in_default c = (λ t. absurd cc, λ s. absurd (number_none c.args.self.now (class_decl (class_key_of c.args.sub.now)) (sym c.in_default.ensures) s.c s.below))

pub returns-in_default-class_number : goal.returns-in_default-class_number
returns-in_default-class_number c = (λ t. absurd cc, λ s. absurd (number_none c.args.self.now (class_decl (class_key_of c.args.sup.now)) (sym c.in_default-class_number.ensures) s.d s.over))

pub returns : goal.returns
returns c =
    is_below c.args.self.now c.keeps_rows.ensures (class_key_of c.args.sub.now) (class_key_of c.args.sup.now) c.in-Some.below c.in-Some-class_number.over c.is_subclass_at.result
    (sym c.in-Some.ensures) (sym c.in-Some-class_number.ensures) c.is_subclass_at.ensures
