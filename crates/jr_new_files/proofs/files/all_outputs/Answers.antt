use Rattle.std.proofs.Common.{◌≡◌, ◌∙◌, length, sym, subst, arith, take_all}
use Rattle.jr_new_words.specs.MappingView.{mapping_in}
use Rattle.jr_new_files.specs.FileEffects.{effects_of, members_of, AreSoFar}
use Rattle.jr_new_files.proofs.Putting.{put_turn, as_many}
use Rattle.jr_new_files.proofs.files.all_outputs.Goals as goal

pub loop-number-preserved : goal.loop-number-preserved
loop-number-preserved g c =
    let p = g.V.View.program c.args.view.now in
    let many : length (members_of p) ≡ length p.bounds = as_many p c.keeps_program.ensures in
    put_turn p (mapping_in c.args.tables.now) c.loop-number.number (effects_of c.loop-number.outputs.items) (effects_of c.put_numbered.new.outputs.items)
    (omega (arith, c.loop-number-test.true, c.bound_count-number-end.ensures, many)) c.loop-number.invariant c.in_ok-put_numbered.ensures

pub returns : goal.returns
returns g c =
    let p = g.V.View.program c.args.view.now in
    let all : length (members_of p) ≡ c.bound_count-number-end.result = as_many p c.keeps_program.ensures ∙ sym c.bound_count-number-end.ensures in
    subst (λ ws. AreSoFar p (mapping_in c.args.tables.now) ws (effects_of c.loop-number.outputs.items)) (take_all _ _ (omega (arith, all, c.loop-number-test.false))) c.loop-number.invariant
