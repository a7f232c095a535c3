use Rattle.std.proofs.Common.{◌≡◌, ◌+◌, ◌∷◌, ◌++◌, [], List, None, Some, map, drop, sym, ap, ◌∙◌}
use Rattle.std.proofs.lemmas.List.{drop_all, map-append}
use Rattle.std.specs.Prelude.{option_map}
use Rattle.jr_table.specs.TypeView.{ty_of}
use Rattle.jr_bind_expr.proofs.Steps.{left_is}
use Rattle.jr_new_bodies.specs.MeaningView.{types_of, types_from}
use Rattle.jr_new_bodies.proofs.Typed.{part_type, with_all, all_none, types_lost, types_go, types_end}
use Rattle.jr_new_bodies.proofs.meanings.part_types.Goals as goal

pub loop-part-init : goal.loop-part-init
loop-part-init g c =
    let f = part_type c.args.here.now c.args.path.now.steps.items in
    ap (λ ts. with_all (types_of ts) (types_from f c.args.first c.args.parts.now)) c.new-types.ensures.items ∙ all_none (types_from f c.args.first c.args.parts.now)

pub returns-in-None : goal.returns-in-None
returns-in-None g c =
    let l = c.loop-part in
    let parts = c.args.parts.now in
    let i = l._part-index in
    types_lost (part_type c.args.here.now c.args.path.now.steps.items) (types_of l.types.items) l.step (drop i parts) _ l.invariant c._part-item.result (drop (i + 1) parts)
    (left_is parts i c._part-item.result c.loop-part-test.true c._part-item.is) (sym c.in_ok-ty.ensures ∙ ap (option_map ty_of) c.in-None.is)

pub loop-part-preserved : goal.loop-part-preserved
loop-part-preserved g c =
    let l = c.loop-part in
    let parts = c.args.parts.now in
    let i = l._part-index in
    types_go (part_type c.args.here.now c.args.path.now.steps.items) (types_of l.types.items) l.step (drop i parts) _ l.invariant c._part-item.result (drop (i + 1) parts) (ty_of c.in-Some.ty) c.in_ok-step.step _
    (left_is parts i c._part-item.result c.loop-part-test.true c._part-item.is) (sym c.in_ok-ty.ensures ∙ ap (option_map ty_of) c.in-Some.is) c.in_ok-step.ensures
    (ap (map ty_of) c.in_ok-push-in-Some.ensures.items ∙ map-append ty_of l.types.items (c.in-Some.ty ∷ []))

pub returns : goal.returns
returns g c =
    let l = c.loop-part in
    types_end (part_type c.args.here.now c.args.path.now.steps.items) (types_of l.types.items) l.step (drop l._part-index c.args.parts.now) _ l.invariant (drop_all l._part-index c.args.parts.now c.loop-part-test.false)
