use Rattle.std.proofs.Common.{List, ℕ, length, ◌≡◌, ◌+◌, sym, ap, subst, ◌∙◌}
use Rattle.jr_dependences.specs.Summed.{AreSumsOn}
use Rattle.jr_dependences.proofs.together.weigh_anew.Goals as goal

pub weigh_by-requires-clause-sums : goal.weigh_by-requires-clause-sums
weigh_by-requires-clause-sums c = ap length c.as_slice.ensures.value ∙ c.in_ok-sums.ensures.are.count

pub returns-clause-kept : goal.returns-clause-kept
returns-clause-kept c = c.in_ok-keep.ensures c.args.of.now.sites.now c.args.of.now.lens.now c.requires.kept c.in_ok-sums.ensures

pub returns-clause-weighs : goal.returns-clause-weighs
returns-clause-weighs c edges known =
    c.in_ok-total.ensures edges c.args.each known
    (subst (λ (l : List ℕ). AreSumsOn c.args.of.now.sites.now c.args.first c.args.each c.args.of.now.lens.now l) (sym c.as_slice.ensures.value) c.in_ok-sums.ensures)
