use Rattle.std.proofs.Common.{◌≡◌, ◌∙◌, ◌+◌, ℕ, suc, drop, sym, add-one}
use Rattle.jr_ast.specs.View.{stmts_of}
use Rattle.jr_local_search.specs.Descending.{at_of, pick as chosen}
use Rattle.jr_local_search.proofs.Descents.{pick_here, pick_goes, pick_ends}
use Rattle.jr_local_search.proofs.scopes.pick.Goals as goal

pub returns-then-number-wanted : goal.returns-then-number-wanted
returns-then-number-wanted c =
    let l = c.loop-of in
    sym (l.invariant ∙ pick_here c.args.name.now c.args.list.now l.of-index (at_of l.at) l.number c.args.wanted c.of-item.result c.loop-of-test.true c.of-item.is c.if-number-wanted.true)

pub loop-of-preserved : goal.loop-of-preserved
loop-of-preserved c =
    let l = c.loop-of in
    let xs = c.args.list.now in
    let next : c.in_ok-number.number ≡ suc l.number = c.in_ok-number.ensures ∙ add-one l.number in
    l.invariant ∙ pick_goes c.args.name.now xs l.of-index (at_of l.at) l.number c.args.wanted c.of-item.result c.loop-of-test.true c.of-item.is c.if-number-wanted.false
    ∙ (λ i. chosen c.args.name.now (sym c.in_ok-at.ensures i) (sym next i) c.args.wanted (stmts_of (drop (l.of-index + 1) xs)))

pub returns : goal.returns
returns c =
    let l = c.loop-of in
    sym (l.invariant ∙ pick_ends c.args.name.now c.args.list.now l.of-index (at_of l.at) l.number c.args.wanted c.loop-of-test.false)
