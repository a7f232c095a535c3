use Rattle.std.proofs.lemmas.Result.{IfOk-weaker}
use Rattle.jr_local_search.specs.PlaceView.{extract_of}
use Rattle.jr_local_finds.proofs.extracting.of_selected.Goals as goal

pub returns-in-Ok : goal.returns-in-Ok
returns-in-Ok c = IfOk-weaker c.at_place.result _ _ (λ r h. record { place = extract_of c.in-Ok.place; placed = c.in-Ok.ensures; is = h }) c.at_place.ensures
