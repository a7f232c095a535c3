-- What a session keeps beside its sources: what each text reads as, made from it alone.
use Rattle.std.specs.Prelude.{List, length, Option}
use Rattle.jr_sources.specs.declared.analyses.Analysis.{Analysis}
use Rattle.jr_session.specs.declared.changes.Earlier.{Earlier}
use Rattle.jr_sources.specs.declared.kept.Readings.{Readings}
use Rattle.jr_sources.specs.KeptReadings.{AreReadings}
use Rattle.jr_sources.specs.Sources.{Source, texts_of}
use Rattle.jr_session.specs.Changes.{AreChanges}
use Rattle.jr_sources.specs.Analysed.{IsKeptAnalysis}

-- each change is one of a file that is there, each text is read as it would be from scratch, and
-- what was analysed is what the sources give from scratch
pub record IsKept (sources : List Source) (r : Readings) (done undone : List Earlier)
    (kept : Option Analysis) : Type 0 where
  pub readings : AreReadings (texts_of sources) r
  pub undo : AreChanges (length sources) done
  pub redo : AreChanges (length sources) undone
  pub analysed : IsKeptAnalysis sources kept
