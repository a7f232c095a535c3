use Rattle.std.proofs.Common.{◌+◌, List, ℕ, arith, ap, ◌∙◌}
use Rattle.std.specs.Prelude.{slice_get}
use Rattle.std.proofs.lemmas.Option.{slice_get_within}
use Rattle.jr_expr_types.proofs.Listed.{get_behind}
use Rattle.jr_expr_types.proofs.types.passed.Goals as goal

pub split_at-requires : goal.split_at-requires
split_at-requires c =
    let n = c.args.node.now in
    let e = c.requires.listed c.args.number n c.requires.there c.if-node-gt-FEW_PARTS.true c.args.count c.requires.within in
    let l = slice_get_within c.args.ends.now (n.listed + c.args.count) _ e in
    omega (arith, l)

pub returns-then-node-gt-FEW_PARTS : goal.returns-then-node-gt-FEW_PARTS
returns-then-node-gt-FEW_PARTS c =
    let n = c.args.node.now in
    let e = c.requires.listed c.args.number n c.requires.there c.if-node-gt-FEW_PARTS.true c.args.count c.requires.within in
    c.number_at.ensures ∙ ap (λ (l : List ℕ). slice_get l c.args.count) c.split_at.ensures.back ∙ get_behind c.args.ends.now n.listed c.args.count ∙ e
