use Rattle.std.proofs.Common.{subst}
use Rattle.jr_table.specs.Context.{scope_of}
use Rattle.jr_table.specs.Decls.{class_decl}
use Rattle.jr_table.specs.Found.{one}
use Rattle.jr_table.specs.FoundView.{found_of}
use Rattle.jr_table.specs.Lookup.{FindsTypeOf}
use Rattle.jr_table.specs.TypeView.{class_key_of}
use Rattle.jr_new_words.specs.Scopes.{context_of, rows_of}
use Rattle.jr_new_words.proofs.Founds.{class_is, no_class}
use Rattle.jr_new_words.proofs.Kept.{moved_old}
use Rattle.jr_new_words.proofs.classes.member_by_name.Goals as goal

pub returns-in-None : goal.returns-in-None
returns-in-None c =
    let s = c.args.scopes.now in
    let rows = rows_of s in
    let o = scope_of (context_of s) in
    let name = c.args.name.now in
    let f = found_of c.in_ok-found.found in
    let each = c.lookups_are_exact.ensures.one rows c.keeps_rows.ensures in
    let of = class_key_of c.args.class.now in
    let type = moved_old s c.requires.kept (λ x. FindsTypeOf rows x of name f) c.in_ok-found.ensures in
    λ k x. no_class f c.in-None.ensures k (each.type_of o of name f (one (class_decl k)) type x.1)

pub returns : goal.returns
returns c =
    let s = c.args.scopes.now in
    let rows = rows_of s in
    let o = scope_of (context_of s) in
    let name = c.args.name.now in
    let f = found_of c.in_ok-found.found in
    let each = c.lookups_are_exact.ensures.one rows c.keeps_rows.ensures in
    let of = class_key_of c.args.class.now in
    let type = moved_old s c.requires.kept (λ x. FindsTypeOf rows x of name f) c.in_ok-found.ensures in
    let k = class_key_of c.in-Some.key.now in
    (k, (c.requires.free, subst (FindsTypeOf rows o of name) (class_is f k c.in-Some.ensures) type), c.in_ok-leading_in-in-Some.ensures)
