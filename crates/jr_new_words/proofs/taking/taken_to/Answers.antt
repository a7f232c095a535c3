use Rattle.std.proofs.Common.{ap, ◌∙◌}
use Rattle.std.proofs.lemmas.Result.{IfOk-weaker}
use Rattle.jr_table.specs.KeyView.{decl_of}
use Rattle.jr_spell.specs.ReferenceView.{reference_of}
use Rattle.jr_new_words.specs.ChoiceView.{choice_of}
use Rattle.jr_new_words.specs.Scopes.{rows_of, mapping_of, context_of}
use Rattle.jr_new_words.specs.Ways.{way_of, name_in, reference_by}
use Rattle.jr_new_words.proofs.Spells.{spells_so}
use Rattle.jr_new_words.proofs.taking.taken_to.Goals as goal

pub returns : goal.returns
returns c =
    let s = c.args.scopes.now in
    let w = way_of c.args.way.now in
    let ts = c.args.args.now in
    let i = decl_of c.args.image.now in
    let a = c.in_ok-asked.asked in
    let n = c.name_in.ensures ∙ ap (name_in i) c.name_of-of_local.ensures in
    let n_is = c.in_ok-asked.ensures.name ∙ n in
    let r_is = c.in_ok-asked.ensures.reference ∙ ap (λ m. reference_by w m ts) n in
    IfOk-weaker c.taken_or_lost-choice.result _ _ (λ h x. spells_so (rows_of s) (mapping_of s) (context_of s) i w ts c.args.at c.args.old.now (decl_of c.args.declaration.now) (reference_of a.reference) a.name r_is n_is (choice_of h) x) c.taken_or_lost-choice.ensures
