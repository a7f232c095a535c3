use Rattle.std.proofs.Common.{None, Some, ap, sym, ◌∙◌}
use Rattle.std.specs.Prelude.{option_map}
use Rattle.jr_new_bodies.specs.Known.{context_of}
use Rattle.jr_new_bodies.specs.MeaningView.{types_of}
use Rattle.jr_new_bodies.proofs.Typed.{are_types}
use Rattle.jr_new_bodies.proofs.meanings.types.Goals as goal

pub returns-in-None : goal.returns-in-None
returns-in-None g c =
    are_types c.args.here.now (context_of c.args.here.now) c.args.path.now.steps.items c.args.parts.now c.args.first c.requires.types _
    (ap (option_map (λ v. types_of v.items)) (sym c.in-None.is) ∙ c.in_ok-types.ensures)

pub returns-in_ok-from_vec-in-Some : goal.returns-in_ok-from_vec-in-Some
returns-in_ok-from_vec-in-Some g c =
    are_types c.args.here.now (context_of c.args.here.now) c.args.path.now.steps.items c.args.parts.now c.args.first c.requires.types _
    (ap Some c.in_ok-from_vec-in-Some.ensures ∙ ap (option_map (λ v. types_of v.items)) (sym c.in-Some.is) ∙ c.in_ok-types.ensures)
