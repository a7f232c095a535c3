use Rattle.std.proofs.Common.{◌≡◌, sym, ◌∙◌, ap}
use Rattle.jr_table.specs.Decls.{class_decl}
use Rattle.jr_table.specs.TypeView.{class_key_of}
use Rattle.jr_table.specs.KeyView.{field_key_of}
use Rattle.jr_table.specs.Entries.{entries_of}
use Rattle.jr_table.specs.Looking.{is_field, member}
use Rattle.jr_table.specs.Keys.{FieldKey}
use Rattle.jr_table.specs.Keyed.{HasField}
use Rattle.jr_table.proofs.RowLaws.{number_none}
use Rattle.jr_table.proofs.Border.{if_some, if_none, no_field, the_field}
use Rattle.jr_table.proofs.tables.Table.field_member.Goals as goal

pub returns-in_default-clause-none : goal.returns-in_default-clause-none
returns-in_default-clause-none c = λ k named h. number_none c.args.self.now (class_decl (class_key_of c.args.class.now)) (sym c.in_default.ensures) h.c h.place

pub returns-in_default-member-clause-none : goal.returns-in_default-member-clause-none
returns-in_default-member-clause-none c =
    no_field c.args.self.now c.keeps_rows.ensures (class_key_of c.args.class.now) c.args.name.now c.in-Some.class (sym c.in-Some.ensures)
    (sym (λ t. member (entries_of c.args.self.now) (is_field (c.as_str.ensures t)) c.in-Some.class) ∙ sym c.in_default-member.ensures)

pub returns-clause-member : goal.returns-clause-member
returns-clause-member c =
    let found = the_field c.args.self.now c.keeps_rows.ensures (class_key_of c.args.class.now) c.args.name.now c.in-Some.class c.in-Some-member.number (sym c.in-Some.ensures)
    (sym (λ t. member (entries_of c.args.self.now) (is_field (c.as_str.ensures t)) c.in-Some.class) ∙ sym c.in-Some-member.ensures) in
    if_some (λ k. field_key_of k.now) (HasField c.args.self.now (class_key_of c.args.class.now)) c.field_at.result found.key (c.field_at.ensures ∙ found.at) found.has

pub returns-clause-named : goal.returns-clause-named
returns-clause-named c =
    let found = the_field c.args.self.now c.keeps_rows.ensures (class_key_of c.args.class.now) c.args.name.now c.in-Some.class c.in-Some-member.number (sym c.in-Some.ensures)
    (sym (λ t. member (entries_of c.args.self.now) (is_field (c.as_str.ensures t)) c.in-Some.class) ∙ sym c.in-Some-member.ensures) in
    if_some (λ k. field_key_of k.now) (λ (k : FieldKey). k.name ≡ c.args.name.now) c.field_at.result found.key (c.field_at.ensures ∙ found.at) found.named

pub returns-clause-none : goal.returns-clause-none
returns-clause-none c =
    let found = the_field c.args.self.now c.keeps_rows.ensures (class_key_of c.args.class.now) c.args.name.now c.in-Some.class c.in-Some-member.number (sym c.in-Some.ensures)
    (sym (λ t. member (entries_of c.args.self.now) (is_field (c.as_str.ensures t)) c.in-Some.class) ∙ sym c.in-Some-member.ensures) in
    if_none (λ k. field_key_of k.now) _ c.field_at.result found.key (c.field_at.ensures ∙ found.at)
