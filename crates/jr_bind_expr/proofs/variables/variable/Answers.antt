use Rattle.std.proofs.Common.{map, sym, ap, ◌∙◌}
use Rattle.std.specs.Prelude.{option_map}
use Rattle.jr_table.specs.Entries.{class_of_member, entries_of}
use Rattle.jr_table.specs.Fields.{find_field}
use Rattle.jr_table.specs.Context.{scope_of}
use Rattle.jr_table.specs.Lookup.{shown}
use Rattle.jr_scopes.specs.Helds.{held_of, key_of}
use Rattle.jr_scopes.specs.Tracked.{locals_of}
use Rattle.jr_bind_expr.specs.Places.{context_of, member_of}
use Rattle.jr_bind_expr.proofs.Lasts.{last_is}
use Rattle.jr_bind_expr.proofs.Scoped.{class_is, finds_local, finds_field}
use Rattle.jr_bind_expr.proofs.variables.variable.Goals as goal

pub returns-in-Some : goal.returns-in-Some
unfolding context_of
returns-in-Some c =
    let rows = c.args.table.now in
    let p = c.args.place.now in
    let k = member_of p in
    let name = c.args.name.now in
    let last = last_is k name (map held_of (locals_of p.locals)) ∙ ap (option_map (key_of k)) (sym c.number_named.ensures ∙ c.in-Some.is) in
    finds_local rows (scope_of (context_of p)) name (key_of k c.in-Some.number) last

pub returns-in-None : goal.returns-in-None
unfolding context_of
returns-in-None c =
    let rows = c.args.table.now in
    let p = c.args.place.now in
    let k = member_of p in
    let name = c.args.name.now in
    let last = last_is k name (map held_of (locals_of p.locals)) ∙ ap (option_map (key_of k)) (sym c.number_named.ensures ∙ c.in-None.is) in
    ap (shown rows) (c.field_at.ensures ∙ (λ i. find_field (entries_of rows) p.class p.is_static (c.as_str.ensures i))) ∙ finds_field rows (scope_of (context_of p)) name p.class last (class_is rows (class_of_member k) p.class c.requires.class)
