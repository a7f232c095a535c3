use Rattle.std.proofs.Common.{subst}
use Rattle.jr_table.specs.Context.{scope_of}
use Rattle.jr_table.specs.Found.{nothing}
use Rattle.jr_table.specs.FoundView.{found_of}
use Rattle.jr_table.specs.Lookup.{FindsVariable}
use Rattle.jr_new_words.specs.Scopes.{context_of, rows_of}
use Rattle.jr_new_words.proofs.Refuting.{refuted}
use Rattle.jr_new_words.proofs.classes.left_class.Goals as goal

pub type_by_name-requires-clause-free : goal.type_by_name-requires-clause-free
type_by_name-requires-clause-free c =
    let s = c.args.scopes.now in
    subst (FindsVariable (rows_of s) (scope_of (context_of s)) c.args.name.now) (c.is_nothing.ensures.0 c.if-is_nothing.true) c.in_ok-found.ensures

pub returns : goal.returns
returns c =
    let s = c.args.scopes.now in
    let rows = rows_of s in
    let o = scope_of (context_of s) in
    let name = c.args.name.now in
    let f = found_of c.in_ok-found.found in
    let each = c.lookups_are_exact.ensures.one rows c.keeps_rows.ensures in
    λ k free type. refuted c.if-is_nothing.false c.is_nothing.ensures (each.variable o name f nothing c.in_ok-found.ensures free)
