use Rattle.std.proofs.Common.{List, map, subst}
use Rattle.jr_local_search.specs.declared.names.Naming.{Naming}
use Rattle.jr_local_search.specs.NamingView.{naming_of}
use Rattle.jr_local_search.specs.PlaceView.{inline_of}
use Rattle.jr_local_asked.specs.AskedView.{asked_of}
use Rattle.jr_local_uses.specs.Inlines.{IsPlaced}
use Rattle.jr_local_uses.proofs.uses.uses_of.Goals as goal

pub local_namings-requires-clause-there : goal.local_namings-requires-clause-there
local_namings-requires-clause-there g c = c.requires.there

pub returns : goal.returns
returns g c =
    let x = asked_of c.args.asked.now in
    record {
      is_plain = c.in_ok-is_plain.is_plain;
      tells = c.in_ok-is_plain.ensures;
      are = λ file h. c.in_ok-namings.ensures file h;
      placed = subst (λ (ys : List Naming). IsPlaced c.in_ok-is_plain.is_plain x (map naming_of ys) (inline_of c.place_among-place.result)) c.as_slice-names.ensures.value c.place_among-place.ensures;
    }
