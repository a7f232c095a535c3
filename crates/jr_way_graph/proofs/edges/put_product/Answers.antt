use Rattle.std.proofs.Common.{◌≡◌, ◌++◌, ◌+◌, List, ℕ, take, get_or, sym, subst, arith}
use Rattle.std.proofs.lemmas.List.{append-nil, take_all, take_more}
use Rattle.jr_cover.specs.Flows.{product}
use Rattle.jr_way_graph.proofs.Growing.{product_goes}
use Rattle.jr_way_graph.proofs.edges.put_product.Goals as goal

pub loop-number-init : goal.loop-number-init
loop-number-init c = sym (append-nil c.args.edges.now.items)

pub loop-number-preserved : goal.loop-number-preserved
loop-number-preserved c =
    let i = c.loop-number.number in
    let from = c.args.from.now in
    product_goes c.args.edges.now.items c.loop-number.edges.items c.put_fan.new.edges.items (get_or from i 0) (take i from) (take (i + 1) from) c.args.to.now c.loop-number.invariant c.in_ok-put_fan.ensures (take_more from i 0 c.loop-number-test.true)

pub returns : goal.returns
returns c =
    subst (λ (is : List ℕ). c.loop-number.edges.items ≡ c.args.edges.now.items ++ product is c.args.to.now)
    (take_all c.loop-number.number c.args.from.now (omega arith)) c.loop-number.invariant
