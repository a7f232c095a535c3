use Rattle.std.proofs.Common.{◌∙◌, ◌++◌, map, sym}
use Rattle.jr_local_moves.proofs.Taking.{one_taken, all_taken}
use Rattle.jr_local_moves.proofs.crossings.piece_of.Goals as goal

pub loop-placed-init : goal.loop-placed-init
loop-placed-init c =
    let all = c.into_iter-placed-iterator.ensures.into_iter_gives.0 in
    record {
      sites = (λ i. c.new-sites.ensures.items i ++ map (λ s. s.site) (all i));
      places = (λ i. c.new-places.ensures.items i ++ map (λ s. s.at) (all i));
    }

pub loop-placed-preserved : goal.loop-placed-preserved
loop-placed-preserved c =
    let l = c.loop-placed in
    let all = c.args.footprint.items in
    let left = c.next.new.self.rest.items in
    record {
      sites = one_taken (λ s. s.site) all l.sites.items c.put_site.new.sites.items c.in-Some.placed l.placed-iterator.rest.items left c.in-Some.ensures.steps.0 c.in_ok-put_site.ensures.sites l.invariant.sites;
      places = one_taken (λ s. s.at) all l.places.items c.put_site.new.places.items c.in-Some.placed l.placed-iterator.rest.items left c.in-Some.ensures.steps.0 c.in_ok-put_site.ensures.places l.invariant.places;
    }

pub returns : goal.returns
returns c =
    let l = c.loop-placed in
    let rest = l.placed-iterator.rest in
    let none = sym rest.ok.0 ∙ c.in-None.ensures.steps.0 in
    record {
      sites = all_taken (λ s. s.site) c.args.footprint.items l.sites.items rest.items none l.invariant.sites;
      places = all_taken (λ s. s.at) c.args.footprint.items l.places.items rest.items none l.invariant.places;
    }
