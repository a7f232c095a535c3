use Rattle.std.proofs.Common.{◌≡◌, ◌∷◌, ◌++◌, [], drop}
use Rattle.jr_new_bodies.specs.Known.{type_at}
use Rattle.jr_new_bodies.specs.MeaningView.{types_of, types_from}
use Rattle.jr_new_bodies.proofs.Typed.{with_all}
use Rattle.jr_new_bodies.proofs.meanings.part_types.Given as goal

abbrev pub invariant-loop-part : goal.invariant-loop-part
invariant-loop-part g l =
    with_all (types_of l.types.items) (types_from (λ n. type_at l.here (l.path.steps.items ++ n ∷ [])) l.step (drop l._part-index l.parts))
    ≡ types_from (λ n. type_at l.here (l.path.steps.items ++ n ∷ [])) l.first l.parts
