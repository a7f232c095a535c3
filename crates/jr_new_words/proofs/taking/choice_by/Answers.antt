use Rattle.std.proofs.Common.{Option, subst}
use Rattle.std.proofs.lemmas.Result.{IfOk-weaker}
use Rattle.jr_table.specs.Decls.{Decl}
use Rattle.jr_table.specs.KeyView.{decl_of}
use Rattle.jr_new_words.specs.ChoiceView.{choice_of}
use Rattle.jr_new_words.specs.Scopes.{rows_of, mapping_of, context_of}
use Rattle.jr_new_words.specs.Ways.{way_of, OfDecl, SpellsTo, Gone}
use Rattle.jr_new_words.proofs.taking.choice_by.Goals as goal

pub returns : goal.returns
returns c =
    let s = c.args.scopes.now in
    let rows = rows_of s in
    let g = mapping_of s in
    let x = context_of s in
    let w = way_of c.args.way.now in
    let ts = c.args.args.now in
    let at = c.args.at in
    let old = c.args.old.now in
    let d = decl_of c.args.declaration.now in
    IfOk-weaker c.by_image-choice.result _ _ (λ h z. subst (λ (o : Option Decl). OfDecl o (λ i. SpellsTo rows g x i w ts at old d (choice_of h)) (Gone rows g x w ts at old d (choice_of h))) c.in_ok-image.ensures z) c.by_image-choice.ensures
