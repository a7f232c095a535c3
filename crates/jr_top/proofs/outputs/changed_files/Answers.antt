use Rattle.std.proofs.Common.{◌≡◌, ◌∙◌, ◌+◌, ◌<◌, ◌∷◌, [], ap, arith, length, map, refl, rules, subst, sym}
use Rattle.std.proofs.lemmas.List.{map-append}
use Rattle.jr_files.specs.Views.{store_of}
use Rattle.jr_top.specs.OutputView.{dir_of}
use Rattle.jr_top.proofs.Changed.{StoresUpTo, all_here, changed_here, none_stored, olds_of, unchanged_here}
use Rattle.jr_top.proofs.outputs.changed_files.Goals as goal
use Rattle.jr_top.proofs.outputs.changed_files.Goals.{in-Some+in_ok-name+in_ok-push, in_default}

pub loop-number-preserved : goal.loop-number-preserved
loop-number-preserved c =
    let below : c.loop-number.number < length c.args.files.now = search rules in
    let bytes = c.index-read-number.result in
    elim c.match-changed_text.branch [
      | in-Some+in_ok-name+in_ok-push w ↦
          let all = ap (λ v. map store_of v.items) w.stores-is ∙ ap (map store_of) w.in_ok-push.ensures.items ∙ map-append store_of c.loop-number.stores.items _ in
          changed_here (dir_of c.args.out) c.args.files.now c.args.read.now c.args.session.now.files c.loop-number.number _ bytes c.as_slice.result.now (map store_of c.loop-number.stores.items) _ c.changed_text.result w.in-Some.text _
          below c.requires.count c.index-read-number.is c.requires.differ c.requires.names c.as_slice.ensures.value c.changed_text.ensures w.in-Some.is w.in_ok-name.ensures refl all c.loop-number.invariant
      | in_default w ↦
          subst (λ v. StoresUpTo (dir_of c.args.out) (olds_of c.args.files.now c.args.read.now) c.args.session.now.files (c.loop-number.number + 1) (map store_of v.items)) (sym w.stores-is)
          (unchanged_here (dir_of c.args.out) c.args.files.now c.args.read.now c.args.session.now.files c.loop-number.number _ bytes c.as_slice.result.now (map store_of c.loop-number.stores.items) c.changed_text.result
          below c.requires.count c.index-read-number.is c.requires.differ c.requires.names c.as_slice.ensures.value c.changed_text.ensures w.in_default.not-Some c.loop-number.invariant)
    ]

pub returns : goal.returns
returns c = all_here (dir_of c.args.out) c.args.files.now c.args.read.now c.args.session.now.files c.loop-number.number (map store_of c.loop-number.stores.items) (omega (arith, c.loop-number-test.false)) c.requires.count c.requires.names c.loop-number.invariant
