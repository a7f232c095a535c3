use Rattle.std.proofs.Common.{sym, ap}
use Rattle.std.proofs.lemmas.List.{map_more, take_all}
use Rattle.jr_dependence_lines.specs.Tallies.{told, all_told}
use Rattle.jr_dependence_lines.proofs.Counting.{puts_none, puts_then, puts_as}
use Rattle.jr_dependence_lines.proofs.member_lines.put_lines.Goals as goal

pub loop-dependence-init : goal.loop-dependence-init
loop-dependence-init c = puts_none c.args.tally.now

pub loop-dependence-preserved : goal.loop-dependence-preserved
loop-dependence-preserved c =
    let head = c.args.texts.now.head.now in
    let places = c.args.texts.now.places.now in
    puts_as c.args.tally.now c.put_line.new.tally _ _
    (sym (map_more (told head places) c.args.list.now c.loop-dependence.dependence-index _ c.loop-dependence-test.true))
    (puts_then c.args.tally.now c.loop-dependence.tally c.put_line.new.tally _ _ c.loop-dependence.invariant c.in_ok-put_line.ensures)

pub returns : goal.returns
returns c =
    puts_as c.args.tally.now c.loop-dependence.tally _ _
    (ap (all_told c.args.texts.now.head.now c.args.texts.now.places.now) (take_all c.loop-dependence.dependence-index c.args.list.now c.loop-dependence-test.false)) c.loop-dependence.invariant
