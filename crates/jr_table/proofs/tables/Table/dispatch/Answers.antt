use Rattle.std.proofs.Common.{◌≡◌, sym, ◌∙◌, true, false}
use Rattle.jr_table.specs.Decls.{class_decl, method_decl}
use Rattle.jr_table.specs.TypeView.{class_key_of}
use Rattle.jr_table.specs.KeyView.{method_key_of}
use Rattle.jr_table.specs.Entries.{entries_of}
use Rattle.jr_table.specs.Looking.{is_virtual, nearest}
use Rattle.jr_table.specs.Keys.{MethodKey}
use Rattle.jr_table.specs.Keyed.{DispatchesTo}
use Rattle.jr_table.proofs.RowLaws.{number_none}
use Rattle.jr_table.proofs.Border.{if_some, if_none, not_virtual, not_below, none_nearest, the_method}
use Rattle.jr_table.proofs.tables.Table.dispatch.Goals as goal

pub returns-in_default-clause-none : goal.returns-in_default-clause-none
returns-in_default-clause-none c = λ k d. number_none c.args.self.now (class_decl (class_key_of c.args.class.now)) (sym c.in_default.ensures) d.c d.place

pub returns-in_default-method_number-clause-none : goal.returns-in_default-method_number-clause-none
returns-in_default-method_number-clause-none c = λ k d. number_none c.args.self.now (method_decl (method_key_of c.args.method.now)) (sym c.in_default-method_number.ensures) d.j d.row

pub returns-in_default-virtual_entry-clause-none : goal.returns-in_default-virtual_entry-clause-none
returns-in_default-virtual_entry-clause-none c = λ k.
    not_virtual c.args.self.now c.keeps_rows.ensures (class_key_of c.args.class.now) (method_key_of c.args.method.now) k c.in-Some-method_number.number (sym c.in-Some-method_number.ensures) (sym c.in_default-virtual_entry.ensures)

pub returns-then-not-is_subclass_at-clause-none : goal.returns-then-not-is_subclass_at-clause-none
returns-then-not-is_subclass_at-clause-none c = λ k.
    not_below c.args.self.now c.keeps_rows.ensures (class_key_of c.args.class.now) (method_key_of c.args.method.now) k c.in-Some.class c.in-Some-method_number.number c.in-Some-virtual_entry.entry.now
    (sym c.in-Some.ensures) (sym c.in-Some-method_number.ensures) (sym c.in-Some-virtual_entry.ensures) (λ b. let t = c.is_subclass_at.ensures.1 b in let f = c.if-not-is_subclass_at.true in absurd cc)

pub returns-in_default-nearest-clause-none : goal.returns-in_default-nearest-clause-none
returns-in_default-nearest-clause-none c = λ k.
    none_nearest c.args.self.now c.keeps_rows.ensures (class_key_of c.args.class.now) (method_key_of c.args.method.now) k c.in-Some.class c.in-Some-method_number.number c.in-Some-virtual_entry.entry.now
    (sym c.in-Some.ensures) (sym c.in-Some-method_number.ensures) (sym c.in-Some-virtual_entry.ensures)
    (sym (λ t. nearest (entries_of c.args.self.now) (is_virtual (c.as_str.ensures t) (c.as_slice.ensures t)) c.in-Some.class) ∙ sym c.in_default-nearest.ensures)

pub returns-clause-found : goal.returns-clause-found
returns-clause-found c =
    let rows = c.args.self.now in
    let e = c.in-Some-virtual_entry.entry.now in
    let found = the_method rows c.keeps_rows.ensures (class_key_of c.args.class.now) (method_key_of c.args.method.now) c.in-Some.class c.in-Some-method_number.number c.in-Some-nearest.found e
    (sym c.in-Some.ensures) (sym c.in-Some-method_number.ensures) (sym c.in-Some-virtual_entry.ensures) (c.is_subclass_at.ensures.0 c.if-not-is_subclass_at.false)
    (sym (λ t. nearest (entries_of rows) (is_virtual (c.as_str.ensures t) (c.as_slice.ensures t)) c.in-Some.class) ∙ sym c.in-Some-nearest.ensures) in
    if_some (λ k. method_key_of k.now) (DispatchesTo rows (class_key_of c.args.class.now) (method_key_of c.args.method.now)) c.method_at.result found.key (c.method_at.ensures ∙ found.at) found.is

pub returns-clause-none : goal.returns-clause-none
returns-clause-none c =
    let rows = c.args.self.now in
    let e = c.in-Some-virtual_entry.entry.now in
    let found = the_method rows c.keeps_rows.ensures (class_key_of c.args.class.now) (method_key_of c.args.method.now) c.in-Some.class c.in-Some-method_number.number c.in-Some-nearest.found e
    (sym c.in-Some.ensures) (sym c.in-Some-method_number.ensures) (sym c.in-Some-virtual_entry.ensures) (c.is_subclass_at.ensures.0 c.if-not-is_subclass_at.false)
    (sym (λ t. nearest (entries_of rows) (is_virtual (c.as_str.ensures t) (c.as_slice.ensures t)) c.in-Some.class) ∙ sym c.in-Some-nearest.ensures) in
    if_none (λ k. method_key_of k.now) _ c.method_at.result found.key (c.method_at.ensures ∙ found.at)
