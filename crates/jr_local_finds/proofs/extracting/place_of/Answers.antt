use Rattle.std.proofs.Common.{ℕ, List, sym, subst}
use Rattle.std.proofs.lemmas.Result.{IfOk-weaker}
use Rattle.jr_table.specs.KeyView.{member_key_of}
use Rattle.jr_local_search.specs.Descending.{at_of}
use Rattle.jr_local_search.specs.Places.{IsExtractPlace}
use Rattle.jr_local_search.specs.PlaceView.{extract_of}
use Rattle.jr_local_finds.specs.ValueView.{chosen_of}
use Rattle.jr_local_finds.proofs.extracting.place_of.Goals as goal

pub returns : goal.returns
returns c =
    let k = member_key_of c.args.key.now in
    let x = chosen_of c.args.selected.now in
    let at = at_of c.in_ok-at.at in
    IfOk-weaker c.extract_place.result _ _ (λ r h. record {
      at = at;
      known = λ is_static base. c.in_ok-at.ensures k is_static base (sym c.count_types.ensures);
      is = subst (λ (path : List ℕ). IsExtractPlace c.args.name.now at x.code.front x.code.list path x.value.found (extract_of r)) c.as_slice-steps.ensures.value h;
    }) c.extract_place.ensures
