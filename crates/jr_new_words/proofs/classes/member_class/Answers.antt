use Rattle.std.proofs.Common.{subst}
use Rattle.jr_table.specs.Context.{scope_of}
use Rattle.jr_table.specs.Found.{nothing}
use Rattle.jr_table.specs.FoundView.{found_of}
use Rattle.jr_table.specs.Lookup.{FindsFieldIn}
use Rattle.jr_table.specs.TypeView.{class_key_of}
use Rattle.jr_new_words.specs.Scopes.{context_of, rows_of}
use Rattle.jr_new_words.proofs.Kept.{moved_old}
use Rattle.jr_new_words.proofs.Refuting.{refuted}
use Rattle.jr_new_words.proofs.classes.member_class.Goals as goal

pub member_by_name-requires-clause-free : goal.member_by_name-requires-clause-free
member_by_name-requires-clause-free c =
    let s = c.args.scopes.now in
    let of = class_key_of c.args.class.now in
    subst (FindsFieldIn (rows_of s) (scope_of (context_of s)) of c.args.name.now) (c.is_nothing.ensures.0 c.if-is_nothing.true)
    (moved_old s c.requires (λ x. FindsFieldIn (rows_of s) x of c.args.name.now (found_of c.in_ok-found.found)) c.in_ok-found.ensures)

pub returns : goal.returns
returns c =
    let s = c.args.scopes.now in
    let rows = rows_of s in
    let o = scope_of (context_of s) in
    let name = c.args.name.now in
    let f = found_of c.in_ok-found.found in
    let each = c.lookups_are_exact.ensures.one rows c.keeps_rows.ensures in
    let of = class_key_of c.args.class.now in
    let finds = moved_old s c.requires (λ x. FindsFieldIn rows x of name f) c.in_ok-found.ensures in
    λ k x. refuted c.if-is_nothing.false c.is_nothing.ensures (each.field_in o of name f nothing finds x.0)
