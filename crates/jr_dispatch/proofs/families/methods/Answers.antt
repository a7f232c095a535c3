use Rattle.std.proofs.Common.{◌≡◌, ℕ, List, ◌∷◌, [], Bool, map, sym, ap, subst, ◌∙◌}
use Rattle.jr_table.specs.declared.entries.Entry.{Entry}
use Rattle.jr_table.specs.Decls.{Decl, method_decl}
use Rattle.jr_table.specs.KeyView.{method_key_of, decl_of}
use Rattle.jr_table.specs.Entries.{entries_of}
use Rattle.jr_table.specs.Looking.{is_virtual}
use Rattle.jr_table.proofs.RowLaws.{number_stands}
use Rattle.jr_images.specs.Families.{AreRenamed}
use Rattle.jr_dispatch.specs.Highest.{IsHighest}
use Rattle.jr_dispatch.proofs.Belows.{ok_then}
use Rattle.jr_dispatch.proofs.Connected.{without_row, not_virtual, are_all}
use Rattle.jr_dispatch.proofs.families.methods.Goals as goal

pub returns-in_default : goal.returns-in_default
returns-in_default c =
    let rows = c.args.table.now in
    let k = method_key_of c.args.key.now in
    ok_then c.alone.result _ _
    (λ ds e. subst (λ (d : Decl). AreRenamed rows d (map decl_of ds.items)) (sym c.requires)
    (without_row rows c.keeps_rows.ensures k (sym c.in_default.ensures) (map decl_of ds.items) (e ∙ ap (λ (d : Decl). d ∷ []) c.requires)))
    c.alone.ensures

pub returns-in_default-virtual_entry : goal.returns-in_default-virtual_entry
returns-in_default-virtual_entry c =
    let rows = c.args.table.now in
    let k = method_key_of c.args.key.now in
    ok_then c.alone-in_default-virtual_entry.result _ _
    (λ ds e. subst (λ (d : Decl). AreRenamed rows d (map decl_of ds.items)) (sym c.requires)
    (not_virtual rows c.keeps_rows.ensures k c.in-Some.number (sym c.in-Some.ensures) (sym c.in_default-virtual_entry.ensures) (map decl_of ds.items) (e ∙ ap (λ (d : Decl). d ∷ []) c.requires)))
    c.alone-in_default-virtual_entry.ensures

pub returns : goal.returns
returns c =
    let rows = c.args.table.now in
    let k = method_key_of c.args.key.now in
    let over = c.in-Some-virtual_entry.over.now in
    let own = number_stands rows (method_decl k) c.in-Some.number (sym c.in-Some.ensures) in
    let highest : IsHighest (entries_of rows) (is_virtual over.name over.params) over.class c.highest-top.result =
    subst (λ (t : ℕ → Entry → Bool). IsHighest (entries_of rows) t over.class c.highest-top.result) (λ i. is_virtual (c.as_str.ensures i) (c.as_slice.ensures i)) c.highest-top.ensures in
    ok_then c.all_below.result _ _
    (λ ds h. subst (λ (d : Decl). AreRenamed rows d (map decl_of ds.items)) (sym c.requires)
    (are_all rows c.keeps_rows.ensures k c.in-Some.number c.highest-top.result over own (sym c.in-Some-virtual_entry.ensures) highest (map decl_of ds.items) h))
    c.all_below.ensures
