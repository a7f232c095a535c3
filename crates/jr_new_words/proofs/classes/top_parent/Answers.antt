use Rattle.jr_table.specs.Decls.{class_decl}
use Rattle.jr_table.specs.Found.{one}
use Rattle.jr_table.specs.FoundView.{found_of}
use Rattle.jr_table.specs.HeadRules.{TopFinds}
use Rattle.jr_table.specs.Keys.{ClassKey}
use Rattle.jr_table.specs.TypeView.{class_key_of}
use Rattle.jr_new_words.specs.Chosen.{TopParentSpells}
use Rattle.jr_new_words.specs.MappingView.{mapping_in}
use Rattle.jr_new_words.proofs.Founds.{class_is, no_class}
use Rattle.jr_new_words.proofs.TopFounds.{top_one}
use Rattle.jr_new_words.proofs.Finds.{chooses, chooses_none}
use Rattle.jr_new_words.proofs.classes.top_parent.Goals as goal

pub returns-in-None : goal.returns-in-None
returns-in-None c =
    let p = c.args.tables.now in
    let rows = p.before.now in
    let f = found_of c.in_ok-found.found in
    chooses_none (λ (k : ClassKey). one (class_decl k)) (λ x. TopFinds rows c.args.name.now x) (TopParentSpells rows (mapping_in p) c.args.at c.args.name.now) f c.in_ok-found.ensures (top_one rows c.args.name.now) (no_class f c.in-None.ensures)

pub returns : goal.returns
returns c =
    let p = c.args.tables.now in
    let rows = p.before.now in
    let f = found_of c.in_ok-found.found in
    let k = class_key_of c.in-Some.key.now in
    chooses (λ (k : ClassKey). one (class_decl k)) (λ x. TopFinds rows c.args.name.now x) (TopParentSpells rows (mapping_in p) c.args.at c.args.name.now) f c.in_ok-found.ensures k (class_is f k c.in-Some.ensures) _ c.in_ok-superclass_choice-in-Some.ensures
