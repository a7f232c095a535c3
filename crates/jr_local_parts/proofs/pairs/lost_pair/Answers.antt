use Rattle.std.proofs.Common.{ℕ, Option, None, subst}
use Rattle.jr_sync.specs.declared.sites.DepKind.{DepKind}
use Rattle.jr_sync.specs.Crossing.{IsCrossing}
use Rattle.jr_effect.specs.Plain.{Same}
use Rattle.jr_names.specs.SiteView.{pair_of}
use Rattle.jr_local_moves.specs.Pieces.{sites_of}
use Rattle.jr_local_parts.proofs.PairedSites.{crosses_so, inside, in_sites, in_places, is_pair}
use Rattle.jr_local_parts.proofs.pairs.lost_pair.Goals as goal

pub pair-requires : goal.pair-requires
pair-requires c =
    let before = c.args.before.items in
    let moved = c.args.moved.items in
    let p = c.in_ok-first.first in
    let q = c.in_ok-second.second in
    let one = c.in_ok-first.ensures in
    let other = c.in_ok-second.ensures in
    let crossing = subst (λ (o : Option (ℕ × ℕ × DepKind)). IsCrossing Same Same (sites_of p) (sites_of q) o) c.in-Some.is c.in_ok-found.ensures in
    let both = inside before moved p q one other c.in-Some.crossing crossing in
    record {
      first = in_sites before p one c.in-Some.crossing.0 both.0;
      first_place = in_places before p one c.in-Some.crossing.0 both.0;
      second = in_sites moved q other c.in-Some.crossing.1 both.1;
      second_place = in_places moved q other c.in-Some.crossing.1 both.1;
    }

pub returns-in-None : goal.returns-in-None
returns-in-None c =
    let p = c.in_ok-first.first in
    let q = c.in_ok-second.second in
    let crossing = subst (λ (o : Option (ℕ × ℕ × DepKind)). IsCrossing Same Same (sites_of p) (sites_of q) o) c.in-None.is c.in_ok-found.ensures in
    crosses_so c.args.before.items c.args.moved.items p q c.in_ok-first.ensures c.in_ok-second.ensures None crossing

pub returns-in_ok-pair-in-Some : goal.returns-in_ok-pair-in-Some
returns-in_ok-pair-in-Some c =
    let p = c.in_ok-first.first in
    let q = c.in_ok-second.second in
    let made = c.in_ok-pair-in-Some.ensures in
    let crossing = subst (λ (o : Option (ℕ × ℕ × DepKind)). IsCrossing Same Same (sites_of p) (sites_of q) o) c.in-Some.is c.in_ok-found.ensures in
    is_pair c.args.before.items c.args.moved.items p q c.in_ok-first.ensures c.in_ok-second.ensures c.args.file c.args.start c.in-Some.crossing (pair_of c.in_ok-pair-in-Some.field-0) crossing made.kind made.one made.other
