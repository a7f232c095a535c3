use Rattle.std.proofs.Common.{◌≡◌, Some, None, refl, sym, ap, ◌∙◌}
use Rattle.std.specs.Prelude.{option_map}
use Rattle.jr_table.specs.KeyView.{local_key_of}
use Rattle.jr_table.specs.Entries.{entries_of}
use Rattle.jr_table.specs.Fields.{find_field}
use Rattle.jr_table.specs.Scope.{last_named}
use Rattle.jr_table.specs.Lookup.{local_or, find_variable}
use Rattle.jr_lookup.specs.ScopeView.{scope_of}
use Rattle.jr_lookup.proofs.Showing.{shows_local, shows_field}
use Rattle.jr_lookup.proofs.lookups.variable.Goals as goal

pub returns-in-Some : goal.returns-in-Some
unfolding find_variable
returns-in-Some c =
    let rows = c.args.table.now in
    let s = scope_of c.args.scope.now in
    let name = c.args.name.now in
    let exact = c.lookups_are_exact.ensures.keys rows c.keeps_rows.ensures in
    let last : last_named name s.locals ≡ Some (local_key_of c.in-Some.key.now) = ap (last_named name) (sym c.as_slice.ensures) ∙ sym c.last_local.ensures ∙ ap (option_map (λ k. local_key_of k.now)) c.in-Some.is in
    shows_local c.local_found.result rows _ _ _ _ _ (exact.variable s name) refl last c.local_found.ensures

pub returns-in-None : goal.returns-in-None
unfolding find_variable
returns-in-None c =
    let rows = c.args.table.now in
    let s = scope_of c.args.scope.now in
    let name = c.args.name.now in
    let exact = c.lookups_are_exact.ensures.keys rows c.keeps_rows.ensures in
    let last : last_named name s.locals ≡ None = ap (last_named name) (sym c.as_slice.ensures) ∙ sym c.last_local.ensures ∙ ap (option_map (λ k. local_key_of k.now)) c.in-None.is in
    let field = c.field_at-field.ensures ∙ (λ i. find_field (entries_of rows) (c.number_or_none-place.ensures i) s.is_static (c.as_str.ensures i)) in
    shows_field c.found_by.result rows _ _ _ _ (exact.variable s name) (ap (λ a. local_or rows a (last_named name s.locals)) (sym field)) last c.found_by.ensures
