use Rattle.std.proofs.Common.{subst}
use Rattle.jr_table.specs.Context.{scope_of}
use Rattle.jr_table.specs.Decls.{class_decl}
use Rattle.jr_table.specs.Found.{one}
use Rattle.jr_table.specs.FoundView.{found_of}
use Rattle.jr_table.specs.Lookup.{FindsTypeNamed}
use Rattle.jr_table.specs.TypeView.{class_key_of}
use Rattle.jr_new_words.specs.Scopes.{context_of, rows_of}
use Rattle.jr_new_words.proofs.Founds.{class_is, no_class}
use Rattle.jr_new_words.proofs.Kept.{moved_old}
use Rattle.jr_new_words.proofs.classes.type_by_name.Goals as goal

pub returns-in-None : goal.returns-in-None
returns-in-None c =
    let s = c.args.scopes.now in
    let rows = rows_of s in
    let o = scope_of (context_of s) in
    let name = c.args.name.now in
    let f = found_of c.in_ok-found.found in
    let each = c.lookups_are_exact.ensures.one rows c.keeps_rows.ensures in
    let type = moved_old s c.requires.kept (λ x. FindsTypeNamed rows x name f) c.in_ok-found.ensures in
    λ k free other. no_class f c.in-None.ensures k (each.type_named o name f (one (class_decl k)) type other)

pub returns : goal.returns
returns c =
    let s = c.args.scopes.now in
    let rows = rows_of s in
    let o = scope_of (context_of s) in
    let name = c.args.name.now in
    let f = found_of c.in_ok-found.found in
    let each = c.lookups_are_exact.ensures.one rows c.keeps_rows.ensures in
    let type = moved_old s c.requires.kept (λ x. FindsTypeNamed rows x name f) c.in_ok-found.ensures in
    let k = class_key_of c.in-Some.key.now in
    let spells = c.in_ok-leading-in-Some.ensures in
    (k, c.requires.free, subst (FindsTypeNamed rows o name) (class_is f k c.in-Some.ensures) type, spells.0, spells.1, spells.2)
