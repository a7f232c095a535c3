use Rattle.std.proofs.Common.{sym, ap, subst, ◌∙◌}
use Rattle.std.specs.Prelude.{map, option_map, sum_by}
use Rattle.jr_bind.specs.Programs.{units_of}
use Rattle.jr_program_laws.specs.FileParts.{begins}
use Rattle.jr_new_words.specs.MappingView.{keys_of, mapping_in}
use Rattle.jr_new_words.specs.ChoiceView.{lost_of}
use Rattle.jr_rewrite.specs.Edited.{entries_of}
use Rattle.jr_new_bodies.specs.Effects.{Effect}
use Rattle.jr_new_files.specs.FileLaws.{AreRewritten}
use Rattle.jr_grammar.specs.Layout.{itself}
use Rattle.jr_new_files.specs.FileEffects.{effects_of, AllInOrder}
use Rattle.jr_new_files.proofs.Mapped.{keys_named}
use Rattle.jr_new_files.proofs.Whole.{none_of, first_of, gathered_all, reads_there, reads_plainly, in_order, rewriting}
use Rattle.jr_new_files.proofs.programs.rewrite.Goals as goal

pub all_edits-requires : goal.all_edits-requires
all_edits-requires g c =
    let p = g.V.View.program c.args.view.now in
    let n = mapping_in c.args.tables.now in
    let es = effects_of c.in_ok-outputs.outputs.items in
    let w : AreRewritten itself p.rows p.super_at (units_of p) n es =
    c.files_are_rewritten.ensures itself p.rows p.super_at (units_of p) n es c.keeps_program.ensures.rows (gathered_all p n es c.in_ok-outputs.ensures) in
    let named = (c.rows_are_named.ensures.rows begins p.rows (units_of p) (reads_plainly p n c.keeps_program.ensures) c.keeps_program.ensures.rows).0 in
    subst (λ xs. AllInOrder (effects_of xs)) (sym c.as_slice.ensures.value) (in_order p n (keys_named p.rows (keys_of c.args.tables.now.keys) c.args.tables.now.after.now named c.requires.name) (reads_there p n c.keeps_program.ensures) es w)

pub returns : goal.returns
returns g c =
    let p = g.V.View.program c.args.view.now in
    let n = mapping_in c.args.tables.now in
    let es = effects_of c.in_ok-outputs.outputs.items in
    let w : AreRewritten itself p.rows p.super_at (units_of p) n es =
    c.files_are_rewritten.ensures itself p.rows p.super_at (units_of p) n es c.keeps_program.ensures.rows (gathered_all p n es c.in_ok-outputs.ensures) in
    rewriting p n es c.in_ok-lists.lists.items c.in_ok-respelled.respelled (option_map (λ l. (l.0, lost_of l.1)) c.first_lost.result) w (c.in_ok-lists.ensures ∙ ap (λ xs. map (λ (e : Effect). entries_of e.changes) (effects_of xs)) c.as_slice.ensures.value)
    (c.in_ok-respelled.ensures ∙ ap (λ xs. sum_by (λ (e : Effect). e.respelled) (effects_of xs)) c.as_slice-2.ensures.value)
    (none_of (λ l. (l.0, lost_of l.1)) c.first_lost.result c.first_lost.ensures.none) (first_of es c.first_lost.result c.first_lost.ensures.some)
