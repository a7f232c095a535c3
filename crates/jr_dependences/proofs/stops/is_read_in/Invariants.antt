use Rattle.std.proofs.Common.{ℕ}
use Rattle.jr_sync.specs.declared.sites.Site.{Site}
use Rattle.jr_sync.specs.declared.sites.DepKind.TheVariants.{Flow}
use Rattle.jr_sync.specs.Relations.{Related}
use Rattle.jr_dependences.specs.Numbers.{SameNumber}
use Rattle.jr_dependences.proofs.Numbering.{NotYet}
use Rattle.jr_dependences.proofs.stops.is_read_in.Given as goal

abbrev pub invariant-loop-other : goal.invariant-loop-other
invariant-loop-other l = NotYet (λ (b : Site ℕ ℕ). Related SameNumber SameNumber Flow l.site b) l.sites l.other-index
