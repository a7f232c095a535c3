use Rattle.std.proofs.Common.{◌∷◌, ◌++◌, [], map, ap, ◌∙◌}
use Rattle.std.proofs.lemmas.List.{map-append}
use Rattle.jr_table.specs.TypeView.{ty_of}
use Rattle.jr_new_bodies.specs.MeaningView.{types_of}
use Rattle.jr_new_bodies.proofs.new_types.put_type.Goals as goal

pub returns : goal.returns
returns g c =
    let old = c.args.types.now.items in
    ap (map ty_of) c.in_ok-push.ensures.items ∙ map-append ty_of old (c.in_ok-then.then ∷ []) ∙ ap (λ t. types_of old ++ t ∷ []) c.in_ok-then.ensures
