use Rattle.std.proofs.Common.{List, ℕ, take, sym, subst}
use Rattle.std.proofs.lemmas.List.{take_all, take_more}
use Rattle.jr_flow.specs.Least.{IsLeast}
use Rattle.jr_flow.specs.Nodes.{IsReached}
use Rattle.jr_flow.proofs.Lesser.{least_none}
use Rattle.jr_flow.proofs.used.least_read.Goals as goal

pub loop-read-init : goal.loop-read-init
loop-read-init c = least_none (IsReached c.args.reached.now)

pub loop-read-preserved : goal.loop-read-preserved
loop-read-preserved c =
    let i = c.loop-read.read-index in
    let reads = c.args.reads.now in
    subst (λ (ns : List ℕ). IsLeast (IsReached c.args.reached.now) ns c.lesser-least.result) (sym (take_more reads i 0 c.loop-read-test.true))
    (c.lesser-least.ensures (take i reads) c.loop-read.invariant)

pub returns : goal.returns
returns c =
    subst (λ (ns : List ℕ). IsLeast (IsReached c.args.reached.now) ns c.loop-read.least)
    (take_all c.loop-read.read-index c.args.reads.now c.loop-read-test.false) c.loop-read.invariant
