use Rattle.jr_table.specs.Context.{scope_of}
use Rattle.jr_table.specs.Decls.{class_decl}
use Rattle.jr_table.specs.Found.{one}
use Rattle.jr_table.specs.FoundView.{found_of}
use Rattle.jr_table.specs.Keys.{ClassKey}
use Rattle.jr_table.specs.Lookup.{FindsTypeNamed}
use Rattle.jr_table.specs.TypeView.{class_key_of}
use Rattle.jr_new_words.specs.Chosen.{QualifierSpells}
use Rattle.jr_new_words.specs.Scopes.{context_of, mapping_of, rows_of}
use Rattle.jr_new_words.proofs.Founds.{class_is, no_class}
use Rattle.jr_new_words.proofs.Kept.{moved_old}
use Rattle.jr_new_words.proofs.Finds.{chooses, chooses_none}
use Rattle.jr_new_words.proofs.classes.qualifier.Goals as goal

pub returns-in-None : goal.returns-in-None
returns-in-None c =
    let s = c.args.scopes.now in
    let rows = rows_of s in
    let o = scope_of (context_of s) in
    let f = found_of c.in_ok-found.found in
    let finds = moved_old s c.requires (λ S. FindsTypeNamed rows S c.args.name.now f) c.in_ok-found.ensures in
    chooses_none (λ (k : ClassKey). one (class_decl k)) (λ x. FindsTypeNamed rows o c.args.name.now x) (QualifierSpells rows (mapping_of s) (context_of s) c.args.at c.args.name.now) f finds ((c.lookups_are_exact.ensures.one rows c.keeps_rows.ensures).type_named o c.args.name.now) (no_class f c.in-None.ensures)

pub returns : goal.returns
returns c =
    let s = c.args.scopes.now in
    let rows = rows_of s in
    let o = scope_of (context_of s) in
    let f = found_of c.in_ok-found.found in
    let finds = moved_old s c.requires (λ S. FindsTypeNamed rows S c.args.name.now f) c.in_ok-found.ensures in
    let k = class_key_of c.in-Some.key.now in
    chooses (λ (k : ClassKey). one (class_decl k)) (λ x. FindsTypeNamed rows o c.args.name.now x) (QualifierSpells rows (mapping_of s) (context_of s) c.args.at c.args.name.now) f finds k (class_is f k c.in-Some.ensures) _ c.in_ok-qualifying-in-Some.ensures
