use Rattle.std.proofs.Common.{◌∙◌, ap, sym, ℕ, ◌+◌, drop}
use Rattle.jr_ast.specs.View.{exprs_of}
use Rattle.jr_piece_search.specs.Steps.{choose}
use Rattle.jr_piece_search.proofs.Choosing.{choose_goes, choose_here, choose_ends}
use Rattle.jr_piece_search.proofs.steps.choose.Goals as goal

pub returns-else-passes : goal.returns-else-passes
returns-else-passes c =
    let l = c.loop-part in
    sym (choose_here c.args.span.now c.args.args.now l.part-index c.part-item.result l.number c.loop-part-test.true c.part-item.is (sym c.passes.ensures ∙ c.if-passes.false)) ∙ l.invariant

pub loop-part-preserved : goal.loop-part-preserved
loop-part-preserved c =
    let l = c.loop-part in
    ap (λ (n : ℕ). choose c.args.span.now n (exprs_of (drop (l.part-index + 1) c.args.args.now))) c.in_ok-number.ensures
    ∙ sym (choose_goes c.args.span.now c.args.args.now l.part-index c.part-item.result l.number c.loop-part-test.true c.part-item.is (sym c.passes.ensures ∙ c.if-passes.true)) ∙ l.invariant

pub returns : goal.returns
returns c =
    let l = c.loop-part in
    sym (choose_ends c.args.span.now c.args.args.now l.part-index l.number c.loop-part-test.false) ∙ l.invariant
