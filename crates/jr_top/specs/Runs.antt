-- What a run does.
use Rattle.std.specs.Prelude.{◌≡◌, ℕ, ◌≤◌, ◌⊎◌, List, [], Option, Some, IsSome, OnSome, slice_get}
use Rattle.jr_shelf.specs.Counts.{Rose}
use Rattle.jr_shelf.specs.Shelf.{Files}
use Rattle.jr_names.specs.Replies.{Reply}
use Rattle.jr_script.specs.declared.faults.ScriptFault.{ScriptFault}
use Rattle.jr_words.specs.Words.{Command, Operand, rename, run, Mean, MeanNothing, MayWantMemory}
use Rattle.jr_words.specs.Words.{fetched_of}
use Rattle.jr_files.specs.declared.faults.SourceFault.{SourceFault}
use Rattle.jr_top.specs.declared.statuses.Status.{Status}
use Rattle.jr_top.specs.declared.statuses.Status.TheVariants as status
use Rattle.jr_top.specs.Outputs.{Output, WroteAll, WroteInPart}
use Rattle.jr_top.specs.Renames.{IsNewText, IsNoNewText}
use Rattle.jr_top.specs.Scripts.{HasNoRefusal, HasRefusal, IsRunOutput}
use Rattle.jr_top.specs.Ends.{EndsUnwritten, HasBadScript, HasBadSource, HasGoodInput}
use Rattle.jr_top.specs.Statuses.{IsAnswerOrMemory, IsBadScriptOrMemory, IsBadSourceOrMemory}
use Rattle.jr_top.specs.Statuses.{IsOfRun, OnAnswer, OnDone, OnNoFileFault, OnNoReadFault}
use Rattle.jr_top.specs.Statuses.{OnNothingWritten, OnRefused, OnWriteFault}

-- ---- outputs

-- what is asked for is done, and this is its output: a rename gives the new text, and a run the
-- report of replies of which none is a refusal
abbrev pub Grants : Option Files → Command → Output → Type 0
Grants files (rename file at name) output =
    (output.stores ≡ []) × IsNewText files file at name output.report
Grants files (run out script operands) output =
    (replies : List Reply) × HasNoRefusal replies
    × IsRunOutput files out script operands replies output

-- what is asked for is refused, and this is its output: of a rename the line of the refusal, of a
-- run the report of replies of which one is a refusal
abbrev pub Refuses : Option Files → Command → Output → Type 0
Refuses files (rename file at name) output =
    (output.stores ≡ []) × IsNoNewText files file at name output.report
Refuses files (run out script operands) output =
    (replies : List Reply) × HasRefusal replies
    × IsRunOutput files out script operands replies output

abbrev pub Answers : Option Files → Command → Output → Type 0
Answers files command output = Grants files command output ⊎ Refuses files command output

-- ---- words

-- the words mean a command of which this is so
abbrev pub Ask : List (List ℕ) → (Command → Type 0) → Type 0
Ask words P = (command : Command) × Mean words command × P command

-- they mean one that fetches the file of this word, once `number` others are fetched
abbrev pub FetchesAt : List (List ℕ) → (word number : ℕ) → Type 0
FetchesAt words word number = Ask words (λ command. (operand : Operand)
    × (slice_get (fetched_of command) number ≡ Some operand) × (operand.word ≡ word))

-- words that mean nothing are told as such, or there was no memory to read those of a run
abbrev pub IsMisuse : List (List ℕ) → Status → Type 0
IsMisuse words s = (s ≡ status.Usage) ⊎ ((s ≡ status.NoMemory) × MayWantMemory words)

-- ---- what is held

-- it is known what is held, and the words ask for what the held bytes are no script for
abbrev pub AskOfNoScript : List (List ℕ) → Option Files → Type 0
AskOfNoScript words files = IsSome files
    × Ask words (λ command. (fault : ScriptFault) × HasBadScript files command fault)

-- it is known what is held, and a file that the words name is no source
abbrev pub AskOfNoSource : List (List ℕ) → Option Files → Type 0
AskOfNoSource words files = IsSome files
    × Ask words (λ command. (word : ℕ) × (fault : SourceFault)
    × HasBadSource files command word fault)

-- it is known what is held, and all that the words name is there and has no fault
abbrev pub AskOfGoodInput : List (List ℕ) → Option Files → Type 0
AskOfGoodInput words files = IsSome files × Ask words (HasGoodInput files)

-- ---- faults

-- no count of faults rose: neither the shelf's, nor the sink's
pub record HadNoFault (shelf_before shelf_after sink_before sink_after : ℕ) : Type 0 where
  pub shelf : Rose shelf_before shelf_after → ⊥
  pub sink : Rose sink_before sink_after → ⊥

-- ---- for private clauses

-- how a run ends whose words gave no command
abbrev pub IsUnasked : List (List ℕ) → Status → Type 0
IsUnasked words s = ((s ≡ status.Usage) × MeanNothing words)
    ⊎ ((s ≡ status.NoMemory) × MayWantMemory words)

-- all that is known of a run of the command which ended by this status
pub record Comes (command : Command) (end : Status) (files files' : Option Files)
    (missed missed' : Option (List ℕ)) (faults faults' served served' : ℕ)
    (taken taken' : Option (List ℕ)) (put_faults put_faults' : ℕ) : Type 0 where
  pub of_run : IsOfRun end
  pub unwritten : OnNothingWritten end (EndsUnwritten command end files files' missed missed'
      faults faults' served served')
  pub done : OnDone end (WroteAll command (Grants files command) files files' served served'
      taken taken')
  pub refused : OnRefused end (WroteAll command (Refuses files command) files files' served served'
      taken taken')
  pub write_fault : OnWriteFault end (λ stored. WroteInPart command (Answers files command) stored
      files files' served served' faults faults' taken taken' put_faults put_faults')
  pub no_script : (fault : ScriptFault) → IsSome files → HasBadScript files command fault
      → HadNoFault faults faults' put_faults put_faults' → IsBadScriptOrMemory end
  pub no_source : (word : ℕ) (fault : SourceFault) → IsSome files
      → HasBadSource files command word fault → HadNoFault faults faults' put_faults put_faults'
      → IsBadSourceOrMemory end
  pub complete : IsSome files → HasGoodInput files command
      → HadNoFault faults faults' put_faults put_faults' → IsAnswerOrMemory end
  pub missed_stays : OnNoReadFault end (OnSome files (missed' ≡ missed))
  pub faults_grow : faults ≤ faults'
  pub faults_stay : OnNoFileFault end (faults' ≡ faults)
  pub put_grow : put_faults ≤ put_faults'
  pub put_stay : OnAnswer end (put_faults' ≡ put_faults)

-- what shelf and sink were is what they are
pub record AreUntouched (files files' : Option Files) (missed missed' : Option (List ℕ))
    (faults faults' put_faults put_faults' : ℕ) : Type 0 where
  pub keeps : files' ≡ files
  pub missed_stays : OnSome files (missed' ≡ missed)
  pub faults_stay : faults' ≡ faults
  pub put_stay : put_faults' ≡ put_faults

-- all that is known of a run of the words which ended by this status: that of the command which
-- they mean, or that there was none, or no memory to read it
abbrev pub Ran : List (List ℕ) → Status → Option Files → Option Files → Option (List ℕ)
    → Option (List ℕ) → ℕ → ℕ → ℕ → ℕ → Option (List ℕ) → Option (List ℕ) → ℕ → ℕ → Type 0
Ran words end files files' missed missed' faults faults' served served' taken taken' put_faults
    put_faults' =
    (IsUnasked words end
    × AreUntouched files files' missed missed' faults faults' put_faults put_faults')
    ⊎ Ask words (λ command. Comes command end files files' missed missed' faults faults' served
    served' taken taken' put_faults put_faults')
