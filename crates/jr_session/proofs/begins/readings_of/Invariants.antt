use Rattle.std.proofs.Common.{take}
use Rattle.jr_sources.specs.Sources.{texts_of}
use Rattle.jr_sources.specs.KeptReadings.{AreReadings}
use Rattle.jr_session.proofs.begins.readings_of.Given as goal

abbrev pub invariant-loop-number : goal.invariant-loop-number
invariant-loop-number l = AreReadings (take l.number (texts_of l.sources)) l.readings
