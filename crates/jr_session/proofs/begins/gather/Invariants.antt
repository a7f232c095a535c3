use Rattle.jr_sources.proofs.Entries.{Gathered}
use Rattle.jr_session.proofs.begins.gather.Given as goal

abbrev pub invariant-loop-name : goal.invariant-loop-name
invariant-loop-name l = Gathered l.fn.files.items l.yielded l.name-iterator.rest.items l.sources
