use Rattle.std.proofs.Common.{◌≡◌, arith}
use Rattle.jr_rewrite.specs.ChangeView.{changes_of}
use Rattle.jr_rewrite.specs.Edited.{entries_of}
use Rattle.jr_local_parts.proofs.FileLists.{none_yet, one_more, all_are}
use Rattle.jr_local_parts.proofs.answers.edits_in.Goals as goal

pub loop-number-init : goal.loop-number-init
loop-number-init c = none_yet c.args.file (entries_of (changes_of c.args.changes.now)) _ c.new-lists.ensures.items

pub loop-number-preserved : goal.loop-number-preserved
loop-number-preserved c =
    one_more c.args.file (entries_of (changes_of c.args.changes.now)) c.loop-number.number c.loop-number.lists.items _ c.in_ok-list.list c.in_ok-push.ensures.items c.in_ok-list.ensures c.loop-number.invariant

pub returns : goal.returns
returns c =
    let l = c.loop-number in
    let most = l.auto.number-end in
    let over = c.loop-number-test.false in
    let all : l.number ≡ c.args.count = omega (arith, most, over) in
    all_are c.args.file (entries_of (changes_of c.args.changes.now)) l.number c.args.count l.lists.items all c.requires.file l.invariant
