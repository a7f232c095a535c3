use Rattle.std.proofs.Common.{subst}
use Rattle.jr_table.specs.Decls.{class_decl}
use Rattle.jr_table.specs.TypeView.{class_key_of}
use Rattle.jr_table.specs.Found.{one}
use Rattle.jr_table.specs.FoundView.{found_of}
use Rattle.jr_table.specs.Lookup.{FindsTypeNamed}
use Rattle.jr_table.specs.Context.{scope_of}
use Rattle.jr_new_words.specs.Scopes.{rows_of, context_of}
use Rattle.jr_new_words.proofs.Kept.{moved_old}
use Rattle.jr_new_words.proofs.Founds.{class_is, no_class}
use Rattle.jr_new_words.proofs.types.qualified_type.Goals as goal

pub member_by_name-requires-clause-finds : goal.member_by_name-requires-clause-finds
member_by_name-requires-clause-finds c =
    let s = c.args.scopes.now in
    let rows = rows_of s in
    let o = scope_of (context_of s) in
    let name = c.args.outer.now in
    let f = found_of c.in_ok-found.found in
    let type = moved_old s c.requires (λ x. FindsTypeNamed rows x name f) c.in_ok-found.ensures in
    subst (FindsTypeNamed rows o name) (class_is f (class_key_of c.in-Some.class.now) c.in-Some.ensures) type

pub returns-in-None : goal.returns-in-None
returns-in-None c =
    let s = c.args.scopes.now in
    let rows = rows_of s in
    let o = scope_of (context_of s) in
    let name = c.args.outer.now in
    let f = found_of c.in_ok-found.found in
    let type = moved_old s c.requires (λ x. FindsTypeNamed rows x name f) c.in_ok-found.ensures in
    let each = c.lookups_are_exact.ensures.one rows c.keeps_rows.ensures in
    λ p x. no_class f c.in-None.ensures p.0 (each.type_named o name f (one (class_decl p.0)) type x.0)
