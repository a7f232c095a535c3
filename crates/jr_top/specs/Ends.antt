-- Why a run of a command ends before it writes anything.
use Rattle.std.specs.Prelude.{◌≡◌, ◌≢◌, ℕ, ◌≤◌, ◌⊎◌, List, Option, OnSome}
use Rattle.jr_shelf.specs.Shelf.{Files}
use Rattle.jr_names.specs.declared.steps.Step.{Step}
use Rattle.jr_script.specs.declared.faults.ScriptFault.{ScriptFault}
use Rattle.jr_script.specs.declared.faults.ScriptFault.TheVariants as script_fault
use Rattle.jr_script.specs.ScriptFaults.{IsScriptFault}
use Rattle.jr_session.specs.States.{State, begun}
use Rattle.jr_words.specs.Words.{Command, Operand, rename, run, fetched_of}
use Rattle.jr_files.specs.declared.faults.SourceFault.{SourceFault}
use Rattle.jr_files.specs.declared.faults.FilesFault.{FilesFault}
use Rattle.jr_files.specs.declared.faults.FilesFault.TheVariants as files_fault
use Rattle.jr_files.specs.Sources.{HoldsFault, HoldsSome, HoldsText, IsBadSource}
use Rattle.jr_files.specs.Fetching.{IsInOrder, IsUnread}
use Rattle.jr_top.specs.declared.statuses.Status.{Status}
use Rattle.jr_top.specs.declared.statuses.Status.TheVariants as status
use Rattle.jr_top.specs.Scripts.{HoldsScript, Reads, sources_from}
use Rattle.jr_top.specs.Statuses.{IsUnwritten, OnBadScript, OnBadSource, OnNoReadFault, OnReadFault}

-- where it is known what is held, the bytes of the script have this fault
abbrev pub HasBadScript : Option Files → Command → ScriptFault → Type 0
HasBadScript files (rename file at name) fault = ⊥
HasBadScript files (run out script operands) fault = (fault ≢ script_fault.Memory)
    × OnSome files (HoldsSome files script.text (λ bytes. IsScriptFault bytes fault))

-- where it is known what is held, the word's file is the first that has a fault, and this is it. A
-- run looks at its sources once it has a script
abbrev pub HasBadSource : Option Files → Command → ℕ → SourceFault → Type 0
HasBadSource files (rename file at name) word fault = (word ≡ 1) × HoldsFault 0 files file fault
HasBadSource files (run out script operands) word fault = (steps : List Step)
    × HoldsScript files script.text steps × IsBadSource files operands word fault

-- what the command reads in front of this word's file has no fault: it is the script's, or else the
-- script is one, there aren't too many files, and those in front of it are sources
abbrev pub ReadsUpTo : Option Files → Command → ℕ → Type 0
ReadsUpTo files (rename file at name) word = word ≡ 1
ReadsUpTo files (run out script operands) word = (word ≡ script.word)
    ⊎ ((steps : List Step) × HoldsScript files script.text steps × IsInOrder files operands word)

-- all that the command reads is there and has no fault
abbrev pub HasGoodInput : Option Files → Command → Type 0
HasGoodInput files (rename file at name) = HoldsText files file
HasGoodInput files (run out script operands) =
    (steps : List Step) × (texts : List (List ℕ)) × Reads files script operands steps texts

-- ---- for private clauses

-- a run of the command ended by this status before it wrote anything, and left this of the shelf
pub record EndsUnwritten (command : Command) (end : Status) (files files' : Option Files)
    (missed missed' : Option (List ℕ)) (faults faults' served served' : ℕ) : Type 0 where
  pub unwritten : IsUnwritten end
  pub unread : OnReadFault end (λ word. IsUnread files (fetched_of command) word missed' faults
      faults' served served')
  pub in_order : OnReadFault end (ReadsUpTo files command)
  pub bad_script : OnBadScript end (HasBadScript files command)
  pub bad_source : OnBadSource end (HasBadSource files command)
  pub keeps : files' ≡ files
  pub missed_stays : OnNoReadFault end (OnSome files (missed' ≡ missed))
  pub faults_stay : OnNoReadFault end (faults' ≡ faults)
  pub faults_grow : faults ≤ faults'

-- a run has its steps, its session as it begins, and the bytes that its files hold
pub record IsBegun (files : Option Files) (script : Operand) (operands : List Operand)
    (steps : List Step) (session : State) (read : List (List ℕ)) : Type 0 where
  pub reads : Reads files script operands steps read
  pub begins : session ≡ begun (sources_from operands read)

-- the status of a run whose files have the fault
abbrev pub fault_status : FilesFault → Status
fault_status (files_fault.Unread word) = status.ReadFault word
fault_status (files_fault.BadSource word fault) = status.BadSource word fault
fault_status files_fault.Memory = status.NoMemory
