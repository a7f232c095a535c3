use Rattle.std.proofs.Common.{◌≡◌, ◌++◌, ◌+◌, List, ℕ, take, get_or, sym, subst, arith}
use Rattle.std.proofs.lemmas.List.{append-nil, take_all, take_more}
use Rattle.jr_cover.specs.Flows.{fan}
use Rattle.jr_way_graph.proofs.Growing.{fan_goes}
use Rattle.jr_way_graph.proofs.edges.put_fan.Goals as goal

pub loop-number-init : goal.loop-number-init
loop-number-init c = sym (append-nil c.args.edges.now.items)

pub loop-number-preserved : goal.loop-number-preserved
loop-number-preserved c =
    let i = c.loop-number.number in
    let to = c.args.to.now in
    fan_goes c.args.edges.now.items c.loop-number.edges.items c.put_edge.new.edges.items c.args.from (get_or to i 0) (take i to) (take (i + 1) to) c.loop-number.invariant c.in_ok-put_edge.ensures (take_more to i 0 c.loop-number-test.true)

pub returns : goal.returns
returns c =
    subst (λ (js : List ℕ). c.loop-number.edges.items ≡ c.args.edges.now.items ++ fan c.args.from js)
    (take_all c.loop-number.number c.args.to.now (omega arith)) c.loop-number.invariant
