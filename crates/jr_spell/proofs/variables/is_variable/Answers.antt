use Rattle.std.proofs.Common.{◌≡◌, Some, None, sym, ap, ◌∙◌}
use Rattle.std.specs.Prelude.{option_map}
use Rattle.jr_table.specs.KeyView.{decl_of, local_key_of}
use Rattle.jr_table.specs.Entries.{entries_of, class_number}
use Rattle.jr_table.specs.Found.{one}
use Rattle.jr_lookup.specs.ScopeView.{scope_of}
use Rattle.jr_table.specs.Decls.{local_decl}
use Rattle.jr_table.specs.Fields.{find_field}
use Rattle.jr_table.specs.Scope.{last_named}
use Rattle.jr_table.specs.Lookup.{local_or, find_variable, shown, FindsVariable}
use Rattle.jr_spell.proofs.Founds.{decided}
use Rattle.jr_spell.proofs.variables.is_variable.Goals as goal

pub returns-in-Some : goal.returns-in-Some
unfolding find_variable
returns-in-Some c =
    let rows = c.args.table.now in
    let s = scope_of c.args.scope.now in
    let name = c.args.name.now in
    let exact = (c.lookups_are_exact.ensures.keys rows c.keeps_rows.ensures).variable s name in
    let last : last_named name s.locals ≡ Some (local_key_of c.in-Some.key.now) = ap (last_named name) (sym c.as_slice.ensures) ∙ sym c.last_local.ensures ∙ ap (option_map (λ k. local_key_of k.now)) c.in-Some.is in
    let field = find_field (entries_of rows) (class_number rows s.class) s.is_static name in
    let is : find_variable rows s name ≡ one (local_decl (local_key_of c.in-Some.key.now)) = ap (local_or rows field) last in
    decided (find_variable rows s name) (FindsVariable rows s name) exact _ is (one (decl_of c.args.target.now)) c.is_local.result c.is_local.ensures

pub returns-in-None : goal.returns-in-None
unfolding find_variable
returns-in-None c =
    let rows = c.args.table.now in
    let s = scope_of c.args.scope.now in
    let name = c.args.name.now in
    let exact = (c.lookups_are_exact.ensures.keys rows c.keeps_rows.ensures).variable s name in
    let last : last_named name s.locals ≡ None = ap (last_named name) (sym c.as_slice.ensures) ∙ sym c.last_local.ensures ∙ ap (option_map (λ k. local_key_of k.now)) c.in-None.is in
    let field : c.field_at-field.result ≡ find_field (entries_of rows) (class_number rows s.class) s.is_static name =
    c.field_at-field.ensures ∙ (λ i. find_field (entries_of rows) (c.number_or_none-place.ensures i) s.is_static (c.as_str.ensures i)) in
    let is : find_variable rows s name ≡ shown rows c.field_at-field.result =
    ap (local_or rows (find_field (entries_of rows) (class_number rows s.class) s.is_static name)) last ∙ ap (shown rows) (sym field) in
    decided (find_variable rows s name) (FindsVariable rows s name) exact _ is (one (decl_of c.args.target.now)) c.is_one.result c.is_one.ensures
