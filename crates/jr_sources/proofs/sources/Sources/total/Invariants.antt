use Rattle.jr_sources.specs.Sources.{texts_of}
use Rattle.jr_sources.proofs.Totals.{CountedTo}
use Rattle.jr_sources.proofs.sources.Sources.total.Given as goal

abbrev pub invariant-loop-number : goal.invariant-loop-number
invariant-loop-number l = CountedTo (texts_of l.self) l.number l.total
