use Rattle.std.proofs.Common.{refl, sym, subst}
use Rattle.std.proofs.lemmas.Option.{slice_get_read}
use Rattle.jr_rewrite.specs.ChangeView.{changes_of}
use Rattle.jr_rewrite.specs.Edited.{AreInOrder}
use Rattle.jr_new_bodies.specs.OutputView.{gathered}
use Rattle.jr_new_bodies.specs.Effects.{Effect}
use Rattle.jr_new_files.proofs.Gathering.{of_one}
use Rattle.jr_new_files.proofs.programs.all_edits.Goals as goal

pub edits-requires : goal.edits-requires
edits-requires c =
    let one = of_one gathered (λ (e : Effect). AreInOrder 0 e.changes) c.args.outputs.now c.requires c.loop-output.output-index c.output-item.result (slice_get_read _ _ _ _ refl c.loop-output-test.true c.output-item.is) in
    subst (λ cs. AreInOrder 0 (changes_of cs)) (sym c.as_slice.ensures.value) one
