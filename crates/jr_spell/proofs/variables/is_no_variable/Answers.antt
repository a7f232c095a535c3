use Rattle.std.proofs.Common.{◌≡◌, Some, None, sym, ap, ◌∙◌}
use Rattle.std.specs.Prelude.{option_map}
use Rattle.jr_table.specs.KeyView.{local_key_of}
use Rattle.jr_table.specs.Entries.{entries_of, class_number}
use Rattle.jr_table.specs.Found.{one, nothing}
use Rattle.jr_lookup.specs.ScopeView.{scope_of}
use Rattle.jr_table.specs.Decls.{local_decl}
use Rattle.jr_table.specs.Fields.{find_field, FindsField}
use Rattle.jr_table.specs.Scope.{last_named}
use Rattle.jr_table.specs.Lookup.{local_or, find_variable, shown}
use Rattle.std.proofs.Common.{inl, inr}
use Rattle.jr_spell.proofs.Deciding.{never, along}
use Rattle.jr_spell.proofs.Founds.{nothing_is}
use Rattle.jr_spell.proofs.variables.is_no_variable.Goals as goal

pub returns-in-Some : goal.returns-in-Some
unfolding find_variable
returns-in-Some c =
    let rows = c.args.table.now in
    let s = scope_of c.args.scope.now in
    let name = c.args.name.now in
    let exact = (c.lookups_are_exact.ensures.keys rows c.keeps_rows.ensures).variable s name in
    let last : last_named name s.locals ≡ Some (local_key_of c.in-Some.field-0.now) = ap (last_named name) (sym c.as_slice.ensures) ∙ sym c.last_local.ensures ∙ ap (option_map (λ k. local_key_of k.now)) c.in-Some.is in
    let field = find_field (entries_of rows) (class_number rows s.class) s.is_static name in
    let is : find_variable rows s name ≡ one (local_decl (local_key_of c.in-Some.field-0.now)) = ap (local_or rows field) last in
    never (λ f. let no : one (local_decl (local_key_of c.in-Some.field-0.now)) ≡ nothing = sym is ∙ (exact nothing).1 f in cc)

pub returns-in-None : goal.returns-in-None
unfolding find_variable shown
returns-in-None c =
    let rows = c.args.table.now in
    let s = scope_of c.args.scope.now in
    let name = c.args.name.now in
    let exact = (c.lookups_are_exact.ensures.keys rows c.keeps_rows.ensures).variable s name in
    let last : last_named name s.locals ≡ None = ap (last_named name) (sym c.as_slice.ensures) ∙ sym c.last_local.ensures ∙ ap (option_map (λ k. local_key_of k.now)) c.in-None.is in
    let field : c.field_at-field.result ≡ find_field (entries_of rows) (class_number rows s.class) s.is_static name =
    c.field_at-field.ensures ∙ (λ i. find_field (entries_of rows) (c.number_or_none-place.ensures i) s.is_static (c.as_str.ensures i)) in
    let is : find_variable rows s name ≡ shown rows c.field_at-field.result =
    ap (local_or rows (find_field (entries_of rows) (class_number rows s.class) s.is_static name)) last ∙ ap (shown rows) (sym field) in
    let numbers = (c.lookups_are_exact.ensures.numbers rows c.keeps_rows.ensures).field (class_number rows s.class) s.is_static name in
    along c.is_nothing.ensures
    (λ e. (exact nothing).0 (is ∙ ap (shown rows) e))
    (λ f. elim f [
      | inl x ↦ absurd (let no : nothing ≡ one (local_decl x.0) = x.2 in let no2 : ⊥ = cc in no2)
      | inr x ↦ field ∙ (nothing_is rows _ (FindsField (entries_of rows) (class_number rows s.class) s.is_static name) numbers).1 x.1
    ])
