use Rattle.std.proofs.Common.{List, subst}
use Rattle.std.proofs.lemmas.Result.{IfOk-weaker}
use Rattle.jr_table.specs.Decls.{class_decl}
use Rattle.jr_table.specs.Found.{one}
use Rattle.jr_table.specs.FoundView.{found_of}
use Rattle.jr_table.specs.HeadRules.{TopFinds}
use Rattle.jr_table.specs.Rows.{Row}
use Rattle.jr_table.specs.TypeView.{class_key_of}
use Rattle.jr_new_words.specs.Mappings.{class_to}
use Rattle.jr_new_words.specs.ChoiceView.{choice_of}
use Rattle.jr_new_words.specs.MappingView.{keys_of, mapping_in}
use Rattle.jr_new_words.proofs.Leading.{image_is, leads}
use Rattle.jr_new_words.proofs.TopFounds.{top_one}
use Rattle.jr_new_words.specs.Mappings.{rows_to}
use Rattle.jr_new_words.proofs.Images.{rows_are}
use Rattle.jr_new_words.proofs.classes.superclass_choice.Goals as goal

pub returns : goal.returns
returns c =
    let p = c.args.tables.now in
    let g = mapping_in p in
    let R = rows_to g p.before.now in
    let at = c.args.at in
    let old = c.args.old.now in
    let k = class_key_of c.args.key.now in
    let m = class_key_of c.in_ok-image.image in
    let f = found_of c.in_ok-found.found in
    let type = subst (λ (rows : List Row). TopFinds rows m.name f) (rows_are (keys_of p.keys) p.before.now p.after.now c.requires) c.in_ok-found.ensures in
    IfOk-weaker c.renamed_or_lost.result _ _ (λ h x. image_is at old k (choice_of h) (λ m. TopFinds R m.name (one (class_decl m))) (λ m. TopFinds R m.name) m (class_to g k) c.in_ok-image.ensures
    (leads at old k m (choice_of h) (TopFinds R m.name (one (class_decl m))) (TopFinds R m.name) f type
    (λ is. subst (TopFinds R m.name) is type) (λ l. top_one R m.name f (one (class_decl m)) type l) x)) c.renamed_or_lost.ensures
