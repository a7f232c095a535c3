use Rattle.std.proofs.Common.{List, subst}
use Rattle.std.proofs.lemmas.Result.{IfOk-weaker}
use Rattle.jr_table.specs.Decls.{class_decl}
use Rattle.jr_table.specs.Found.{one}
use Rattle.jr_table.specs.FoundView.{found_of}
use Rattle.jr_table.specs.Lookup.{FindsTypeNamed}
use Rattle.jr_table.specs.LookupLaws.{EachHasOne}
use Rattle.jr_table.specs.Rows.{Row}
use Rattle.jr_table.specs.TypeView.{class_key_of}
use Rattle.jr_new_words.specs.Mappings.{class_to}
use Rattle.jr_new_words.specs.ChoiceView.{choice_of}
use Rattle.jr_new_words.specs.Scopes.{mapping_of, place_to, rows_to}
use Rattle.jr_new_words.proofs.Kept.{moved}
use Rattle.jr_new_words.proofs.Leading.{image_is, leads}
use Rattle.jr_new_words.proofs.classes.qualifying.Goals as goal

pub returns : goal.returns
returns c =
    let s = c.args.scopes.now in
    let R = rows_to s in
    let S = place_to s in
    let g = mapping_of s in
    let at = c.args.at in
    let old = c.args.old.now in
    let k = class_key_of c.args.key.now in
    let m = class_key_of c.in_ok-image.image in
    let each = subst (λ (rows : List Row). EachHasOne rows) c.requires.rows (c.lookups_are_exact.ensures.one s.programs.after.now c.keeps_rows.ensures) in
    let f = found_of c.in_ok-found.found in
    let type = moved s c.requires (λ rows x. FindsTypeNamed rows x m.name f) c.in_ok-found.ensures in
    IfOk-weaker c.renamed_or_lost.result _ _ (λ h x. image_is at old k (choice_of h) (λ m. FindsTypeNamed R S m.name (one (class_decl m))) (λ m. FindsTypeNamed R S m.name) m (class_to g k) c.in_ok-image.ensures
    (leads at old k m (choice_of h) (FindsTypeNamed R S m.name (one (class_decl m))) (FindsTypeNamed R S m.name) f type
    (λ is. subst (FindsTypeNamed R S m.name) is type) (λ l. each.type_named S m.name f (one (class_decl m)) type l) x)) c.renamed_or_lost.ensures
