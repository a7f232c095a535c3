use Rattle.std.proofs.Common.{Option, sym, subst}
use Rattle.std.specs.Prelude.{IfOk, option_map}
use Rattle.jr_table.specs.declared.decls.Decl as raw
use Rattle.jr_table.specs.KeyView.{decl_of}
use Rattle.jr_new_words.specs.ChoiceView.{choice_of}
use Rattle.jr_new_words.specs.Scopes.{rows_of, mapping_of, context_of}
use Rattle.jr_new_words.specs.Ways.{way_of, OfDecl, SpellsTo, Gone}
use Rattle.jr_new_words.proofs.taking.by_image.Goals as goal

pub returns-in-None : goal.returns-in-None
returns-in-None c =
    let s = c.args.scopes.now in
    let rows = rows_of s in
    let g = mapping_of s in
    let x = context_of s in
    let w = way_of c.args.way.now in
    let ts = c.args.args.now in
    let at = c.args.at in
    let old = c.args.old.now in
    let d = decl_of c.args.declaration.now in
    subst (λ (o : Option raw.Decl). IfOk c.gone.result (λ h. OfDecl (option_map decl_of o) (λ i. SpellsTo rows g x i w ts at old d (choice_of h)) (Gone rows g x w ts at old d (choice_of h)))) (sym c.in-None.is) c.gone.ensures

pub returns-in-Some : goal.returns-in-Some
returns-in-Some c =
    let s = c.args.scopes.now in
    let rows = rows_of s in
    let g = mapping_of s in
    let x = context_of s in
    let w = way_of c.args.way.now in
    let ts = c.args.args.now in
    let at = c.args.at in
    let old = c.args.old.now in
    let d = decl_of c.args.declaration.now in
    subst (λ (o : Option raw.Decl). IfOk c.taken_to.result (λ h. OfDecl (option_map decl_of o) (λ i. SpellsTo rows g x i w ts at old d (choice_of h)) (Gone rows g x w ts at old d (choice_of h)))) (sym c.in-Some.is) c.taken_to.ensures
