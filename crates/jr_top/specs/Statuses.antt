-- Statuses: their numbers, and facts that hold where a run ended in one way. A last arm `_` has the
-- statuses that the fact is not about; where one that comes later is to be promised more, it is the
-- arm that promises.
use Rattle.std.specs.Prelude.{ℕ}
use Rattle.jr_script.specs.declared.faults.ScriptFault.{ScriptFault}
use Rattle.jr_files.specs.declared.faults.SourceFault.{SourceFault}
use Rattle.jr_top.specs.declared.statuses.Status.{Status}
use Rattle.jr_top.specs.declared.statuses.Status.TheVariants.{
  Done,
  Refused,
  Usage,
  ReadFault,
  WriteFault,
  BadScript,
  BadSource,
  NoMemory,
}

-- the number that a process ends with
abbrev pub number_of : Status → ℕ
number_of Done = 0
number_of Refused = 1
number_of Usage = 2
number_of (ReadFault word) = 3
number_of (WriteFault stored) = 4
number_of (BadScript fault) = 5
number_of (BadSource word fault) = 6
number_of NoMemory = 7

abbrev pub OnDone : Status → Type 0 → Type 0
OnDone Done P = P
OnDone _ P = Unit {0}

abbrev pub OnRefused : Status → Type 0 → Type 0
OnRefused Refused P = P
OnRefused _ P = Unit {0}

-- a fact where all was read and written
abbrev pub OnAnswer : Status → Type 0 → Type 0
OnAnswer Done P = P
OnAnswer Refused P = P
OnAnswer _ P = Unit {0}

-- a fact of the word whose file can't be read
abbrev pub OnReadFault : Status → (ℕ → Type 0) → Type 0
OnReadFault (ReadFault word) P = P word
OnReadFault _ P = Unit {0}

-- a fact of the number of files that were stored before the fault
abbrev pub OnWriteFault : Status → (ℕ → Type 0) → Type 0
OnWriteFault (WriteFault stored) P = P stored
OnWriteFault _ P = Unit {0}

-- a fact of what is wrong with the script
abbrev pub OnBadScript : Status → (ScriptFault → Type 0) → Type 0
OnBadScript (BadScript fault) P = P fault
OnBadScript _ P = Unit {0}

-- a fact of the word whose file is no source, and of the fault
abbrev pub OnBadSource : Status → (ℕ → SourceFault → Type 0) → Type 0
OnBadSource (BadSource word fault) P = P word fault
OnBadSource _ P = Unit {0}

-- a fact where the run ended before it wrote anything
abbrev pub OnNothingWritten : Status → Type 0 → Type 0
OnNothingWritten Done P = Unit {0}
OnNothingWritten Refused P = Unit {0}
OnNothingWritten (WriteFault stored) P = Unit {0}
OnNothingWritten _ P = P

-- a fact where no file failed to be read
abbrev pub OnNoReadFault : Status → Type 0 → Type 0
OnNoReadFault (ReadFault word) P = Unit {0}
OnNoReadFault _ P = P

-- a fact where no file failed to be read or written
abbrev pub OnNoFileFault : Status → Type 0 → Type 0
OnNoFileFault (ReadFault word) P = Unit {0}
OnNoFileFault (WriteFault stored) P = Unit {0}
OnNoFileFault _ P = P

-- the run did all its work, or found no memory
abbrev pub IsAnswerOrMemory : Status → Type 0
IsAnswerOrMemory Done = Unit {0}
IsAnswerOrMemory Refused = Unit {0}
IsAnswerOrMemory NoMemory = Unit {0}
IsAnswerOrMemory _ = ⊥

-- the script is none, or there was no memory
abbrev pub IsBadScriptOrMemory : Status → Type 0
IsBadScriptOrMemory (BadScript fault) = Unit {0}
IsBadScriptOrMemory NoMemory = Unit {0}
IsBadScriptOrMemory _ = ⊥

-- a file is no source, or there was no memory
abbrev pub IsBadSourceOrMemory : Status → Type 0
IsBadSourceOrMemory (BadSource word fault) = Unit {0}
IsBadSourceOrMemory NoMemory = Unit {0}
IsBadSourceOrMemory _ = ⊥

-- ---- for private clauses

-- the run ended before it wrote anything, and its words meant something
abbrev pub IsUnwritten : Status → Type 0
IsUnwritten (ReadFault word) = Unit {0}
IsUnwritten (BadScript fault) = Unit {0}
IsUnwritten (BadSource word fault) = Unit {0}
IsUnwritten NoMemory = Unit {0}
IsUnwritten _ = ⊥

-- it did all its work
abbrev pub IsAnswer : Status → Type 0
IsAnswer Done = Unit {0}
IsAnswer Refused = Unit {0}
IsAnswer _ = ⊥

-- how a run ends whose words mean a script
abbrev pub IsOfRun : Status → Type 0
IsOfRun Done = Unit {0}
IsOfRun Refused = Unit {0}
IsOfRun (ReadFault word) = Unit {0}
IsOfRun (WriteFault stored) = Unit {0}
IsOfRun (BadScript fault) = Unit {0}
IsOfRun (BadSource word fault) = Unit {0}
IsOfRun NoMemory = Unit {0}
IsOfRun _ = ⊥
