use Rattle.std.proofs.Common.{◌≡◌, ◌∙◌, ap, sym, refl, option_map}
use Rattle.jr_local_search.specs.NamingView.{naming_of}
use Rattle.jr_local_search.proofs.places.behind_moves.Goals as goal

pub returns-in-None : goal.returns-in-None
returns-in-None c = λ is_plain first may. (may, sym c.first_target.ensures ∙ ap (option_map (λ x. naming_of x.now)) c.in-None.is)

pub returns-in-Some : goal.returns-in-Some
returns-in-Some c = λ is_plain first may. (may, naming_of c.in-Some.target.now, sym c.first_target.ensures ∙ ap (option_map (λ x. naming_of x.now)) c.in-Some.is, refl)
