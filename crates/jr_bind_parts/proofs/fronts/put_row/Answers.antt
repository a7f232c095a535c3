use Rattle.std.proofs.Common.{◌++◌, sym, ap, add-one, ◌∙◌}
use Rattle.jr_expr_types.specs.Trees.{none, flats}
use Rattle.jr_expr_types.specs.TypedTrees.{leaf, put_leaves}
use Rattle.jr_bind_expr.proofs.TypedParts.{start, add}
use Rattle.jr_bind_parts.proofs.fronts.put_row.Goals as goal

pub loop-leaf-init : goal.loop-leaf-init
loop-leaf-init c = start c.args.types.now

pub loop-leaf-preserved : goal.loop-leaf-preserved
loop-leaf-preserved c =
    let front = c.args.types.now in
    let n = c.loop-leaf._leaf in
    add front (put_leaves n none) leaf c.loop-leaf.types c.put_leaf.new.types c.loop-leaf.invariant c.in_ok-put_leaf.ensures
    ∙ ap (λ k. front ++ flats (put_leaves k none)) (sym (add-one n))
