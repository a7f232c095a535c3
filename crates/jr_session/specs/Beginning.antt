-- Which files a session can begin with.
use Rattle.std.specs.Prelude.{◌≡◌, ◌<◌, ◌≤◌, List, length}
use Rattle.jr_session.specs.declared.begins.BeginFault.{BeginFault}
use Rattle.jr_session.specs.declared.begins.BeginFault.TheVariants as fault
use Rattle.jr_sources.specs.Sources.{Source, texts_of, total_of, file_limit, total_limit}
use Rattle.jr_sources.specs.Sources.{Differ, HaveSameName}

-- no more files than there may be, each with a name of its own, and no more bytes
pub record CanBegin (files : List Source) : Type 0 where
  pub few : length files ≤ file_limit
  pub differ : Differ files
  pub within : total_of (texts_of files) ≤ total_limit

-- Too many files are told before two of one name, and these before too many bytes. Memory may run
-- out where there aren't too many.
abbrev pub IsBeginFault : List Source → BeginFault → Type 0
IsBeginFault files (fault.TooMany count) = (file_limit < length files) × (count ≡ length files)
IsBeginFault files (fault.SameName first second) =
    (length files ≤ file_limit) × HaveSameName files first second
IsBeginFault files (fault.TotalTooLong len) = (length files ≤ file_limit) × Differ files
    × (total_limit < total_of (texts_of files)) × (len ≡ total_of (texts_of files))
IsBeginFault files fault.Memory = length files ≤ file_limit
