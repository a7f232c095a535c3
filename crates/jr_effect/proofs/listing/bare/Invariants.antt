use Rattle.std.proofs.Common.{◌≡◌, map, take}
use Rattle.jr_effect.proofs.listing.bare.Given as goal

abbrev pub invariant-loop-placed : goal.invariant-loop-placed
invariant-loop-placed l = map (λ s. s.now) l.row.items ≡ map (λ s. s.site) (take l.placed-index l.sites)
