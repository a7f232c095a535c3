use Rattle.jr_extract_lists.proofs.Places.{placed}
use Rattle.jr_extract_lists.proofs.walks.go.Goals as goal

pub returns : goal.returns
returns c = λ p x r begins.
    placed p c.args.of.now x c.args.here.now c.go_to_element.new.here c.in_ok-next.next c.in_ok-element.element c.len.result r begins c.in_ok-next.ensures c.in_ok-element.ensures c.len.ensures
