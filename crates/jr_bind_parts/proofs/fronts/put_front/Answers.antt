use Rattle.std.proofs.Common.{arith}
use Rattle.std.proofs.lemmas.Result.{IfOk-weaker}
use Rattle.jr_expr_types.specs.Trees.{none}
use Rattle.jr_expr_types.specs.TypedTrees.{put_leaves}
use Rattle.jr_bind_parts.proofs.TypedDeclaring.{leaves_flats, leaves_counted}
use Rattle.jr_bind_parts.proofs.TypedPassing.{add_more}
use Rattle.jr_bind_parts.proofs.fronts.put_front.Goals as goal

pub returns-clause-slots : goal.returns-clause-slots
returns-clause-slots c =
    let front = c.args.types.now in
    let first = put_leaves c.args.modifiers none in
    let second = put_leaves c.args.named first in
    let third = put_leaves c.args.params second in
    let h = add_more front first second _ _ _ (leaves_flats c.args.named first) c.in_ok-put_row.ensures c.in_ok-put_row-2.ensures in
    let k = add_more front second third _ _ _ (leaves_flats c.args.params second) h c.in_ok-put_row-3.ensures in
    IfOk-weaker c.more_parts-2.result _ _ (λ n e. k) c.more_parts-2.ensures

pub returns-clause-count : goal.returns-clause-count
returns-clause-count c =
    let first = put_leaves c.args.modifiers none in
    let second = put_leaves c.args.named first in
    let a = leaves_counted c.args.modifiers none in
    let b = leaves_counted c.args.named first in
    let d = leaves_counted c.args.params second in
    let sum = c.in_ok-first.ensures in
    IfOk-weaker c.more_parts-2.result _ _ (λ n e. omega (arith, a, b, d, sum, e)) c.more_parts-2.ensures
