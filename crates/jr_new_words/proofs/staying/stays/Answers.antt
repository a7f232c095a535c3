use Rattle.std.proofs.Common.{List, subst}
use Rattle.jr_table.specs.Rows.{Row}
use Rattle.jr_table.specs.LookupLaws.{KeysAreFound}
use Rattle.jr_new_words.specs.Scopes.{rows_of}
use Rattle.jr_new_words.proofs.Unchanged.{local_chosen, field_chosen}
use Rattle.jr_new_words.proofs.staying.stays.Goals as goal

pub returns-in-Some : goal.returns-in-Some
returns-in-Some c = λ t at.
    let s = c.args.scopes.now in
    let own = c.lookups_are_exact.ensures.keys (rows_of s) c.keeps_rows.ensures in
    let new = subst (λ (rows : List Row). KeysAreFound rows) c.requires.rows (c.lookups_are_exact.ensures.keys s.programs.after.now c.keeps_rows-2.ensures) in
    local_chosen s c.requires c.args.name.now at own new c.in-Some.number c.in-Some.ensures (c.local_stays.ensures t)

pub returns-in-None : goal.returns-in-None
returns-in-None c = λ t at.
    let s = c.args.scopes.now in
    let own = c.lookups_are_exact.ensures.keys (rows_of s) c.keeps_rows.ensures in
    let new = subst (λ (rows : List Row). KeysAreFound rows) c.requires.rows (c.lookups_are_exact.ensures.keys s.programs.after.now c.keeps_rows-2.ensures) in
    field_chosen s c.requires c.args.name.now at own new c.in-None.ensures (c.field_stays.ensures t)
