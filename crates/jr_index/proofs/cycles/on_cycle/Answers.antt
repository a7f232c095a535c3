use Rattle.std.proofs.Common.{◌∙◌, ap, map}
use Rattle.std.proofs.lemmas.Result.{IfOk-weaker}
use Rattle.jr_index.specs.Cycles.{is_even}
use Rattle.jr_index.proofs.Parity.{known}
use Rattle.jr_index.proofs.cycles.on_cycle.Goals as goal

pub returns : goal.returns
returns c =
    let k = c.in_ok-known.known in
    let m = c.in_ok-known.ensures.marked in
    IfOk-weaker c.evens.result _ _ (λ on is. known c.args.parents.now m.0 k.marks.items k.first c.in_ok-known.ensures.size m.1 m.2 on.items (is ∙ ap (map is_even) c.deref.ensures.value)) c.evens.ensures
