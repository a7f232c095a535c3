-- How a run ends where it is known what is held.
use Rattle.std.proofs.Common.{◌≡◌, ℕ, List, Option, None, Some, IsSome, inl, inr}
use Rattle.std.proofs.lemmas.Bool.{false≢true}
use Rattle.jr_shelf.specs.Shelf.{Files}
use Rattle.jr_script.specs.declared.faults.ScriptFault.{ScriptFault}
use Rattle.jr_script.specs.ScriptLaws.{ScriptHasNoFault}
use Rattle.jr_words.specs.Words.{Operand, run}
use Rattle.jr_files.specs.declared.faults.SourceFault.{SourceFault}
use Rattle.jr_top.specs.declared.statuses.Status.{Status}
use Rattle.jr_top.specs.declared.statuses.Status.TheVariants.{Done, Refused, Usage, ReadFault, WriteFault, BadScript, BadSource, NoMemory}
use Rattle.jr_top.specs.Ends.{EndsUnwritten, HasBadScript, HasBadSource, HasGoodInput}
use Rattle.jr_top.specs.Outputs.{FailedInReport, FailedInStores, Output, WroteAll, WroteInPart}
use Rattle.jr_top.specs.Runs.{Answers, Grants, HadNoFault, Refuses}
use Rattle.jr_top.specs.Scripts.{Reads, HoldsScript}
use Rattle.jr_top.specs.Statuses.{IsAnswerOrMemory, IsBadScriptOrMemory, IsBadSourceOrMemory, IsOfRun, OnDone, OnNothingWritten, OnRefused, OnWriteFault}
use Rattle.jr_top.proofs.InputLaws.{script_not_bad, sources_not_bad}

-- what is known of the end of a run of this command
pub record RunEnd (files : Option Files) (out : Option (List ℕ)) (script : Operand) (operands : List Operand) (end : Status)
    (files' : Option Files) (missed missed' : Option (List ℕ)) (faults faults' served served' : ℕ) (taken taken' : Option (List ℕ)) (put_faults put_faults' : ℕ) : Type 0 where
  pub of_run : IsOfRun end
  pub unwritten : OnNothingWritten end (EndsUnwritten (run out script operands) end files files' missed missed' faults faults' served served')
  pub done : OnDone end (WroteAll (run out script operands) (Grants files (run out script operands)) files files' served served' taken taken')
  pub refused : OnRefused end (WroteAll (run out script operands) (Refuses files (run out script operands)) files files' served served' taken taken')
  pub write_fault : OnWriteFault end (λ stored. WroteInPart (run out script operands) (Answers files (run out script operands)) stored files files' served served'
      faults faults' taken taken' put_faults put_faults')
  pub no_fault : HadNoFault faults faults' put_faults put_faults'

not_written : {held : Files} {out : Option (List ℕ)} {script : Operand} {operands : List Operand} {files' : Option Files}
    {faults faults' served served' : ℕ} {taken taken' : Option (List ℕ)} {put_faults put_faults' : ℕ} (stored : ℕ)
    → WroteInPart (run out script operands) (Answers (Some held) (run out script operands)) stored (Some held) files' served served' faults faults' taken taken' put_faults put_faults'
    → HadNoFault faults faults' put_faults put_faults' → ⊥
not_written stored wrote no_fault = elim wrote.part [ inl stores ↦ no_fault.shelf stores.rose | inr report ↦ no_fault.sink report.rose ]

module _ {held : Files} {out : Option (List ℕ)} {script : Operand} {operands : List Operand} {files' : Option Files} {missed missed' : Option (List ℕ)}
    {faults faults' served served' : ℕ} {taken taken' : Option (List ℕ)} {put_faults put_faults' : ℕ} where
  script_at : ScriptHasNoFault → (end : Status) → RunEnd (Some held) out script operands end files' missed missed' faults faults' served served' taken taken' put_faults put_faults'
      → (fault : ScriptFault) → HasBadScript (Some held) (run out script operands) fault → IsBadScriptOrMemory end
  script_at law Done e fault bad = absurd (script_not_bad law held script.text e.done.is_output.2.steps fault e.done.is_output.2.reads.of_script bad.0 bad.1)
  script_at law Refused e fault bad = absurd (script_not_bad law held script.text e.refused.is_output.2.steps fault e.refused.is_output.2.reads.of_script bad.0 bad.1)
  script_at law Usage e fault bad = absurd e.of_run
  script_at law (ReadFault word) e fault bad = absurd (e.no_fault.shelf e.unwritten.unread.rose)
  script_at law (WriteFault stored) e fault bad = absurd (not_written stored e.write_fault e.no_fault)
  script_at law (BadScript other) e fault bad = tt
  script_at law (BadSource word other) e fault bad = absurd (script_not_bad law held script.text e.unwritten.bad_source.0 fault e.unwritten.bad_source.1 bad.0 bad.1)
  script_at law NoMemory e fault bad = tt

  source_at : ScriptHasNoFault → (end : Status) → RunEnd (Some held) out script operands end files' missed missed' faults faults' served served' taken taken' put_faults put_faults'
      → (word : ℕ) (fault : SourceFault) → HasBadSource (Some held) (run out script operands) word fault → IsBadSourceOrMemory end
  source_at law Done e word fault bad = absurd (sources_not_bad held operands _ word fault e.done.is_output.2.reads.fetched bad.2)
  source_at law Refused e word fault bad = absurd (sources_not_bad held operands _ word fault e.refused.is_output.2.reads.fetched bad.2)
  source_at law Usage e word fault bad = absurd e.of_run
  source_at law (ReadFault other) e word fault bad = absurd (e.no_fault.shelf e.unwritten.unread.rose)
  source_at law (WriteFault stored) e word fault bad = absurd (not_written stored e.write_fault e.no_fault)
  source_at law (BadScript other) e word fault bad = absurd (script_not_bad law held script.text bad.0 other bad.1 e.unwritten.bad_script.0 e.unwritten.bad_script.1)
  source_at law (BadSource other why) e word fault bad = tt
  source_at law NoMemory e word fault bad = tt

  input_at : ScriptHasNoFault → (end : Status) → RunEnd (Some held) out script operands end files' missed missed' faults faults' served served' taken taken' put_faults put_faults'
      → HasGoodInput (Some held) (run out script operands) → IsAnswerOrMemory end
  input_at law Done e good = tt
  input_at law Refused e good = tt
  input_at law Usage e good = absurd e.of_run
  input_at law (ReadFault other) e good = absurd (e.no_fault.shelf e.unwritten.unread.rose)
  input_at law (WriteFault stored) e good = absurd (not_written stored e.write_fault e.no_fault)
  input_at law (BadScript other) e good = absurd (script_not_bad law held script.text good.0 other good.2.of_script e.unwritten.bad_script.0 e.unwritten.bad_script.1)
  input_at law (BadSource word why) e good = absurd (sources_not_bad held operands good.1 word why good.2.fetched e.unwritten.bad_source.2)
  input_at law NoMemory e good = tt

-- where it is known what is held
pub bad_script_ends : {out : Option (List ℕ)} {script : Operand} {operands : List Operand} {files' : Option Files} {missed missed' : Option (List ℕ)} {faults faults' served served' : ℕ} {taken taken' : Option (List ℕ)} {put_faults put_faults' : ℕ}
    → ScriptHasNoFault → (files : Option Files) → IsSome files → (end : Status) → RunEnd files out script operands end files' missed missed' faults faults' served served' taken taken' put_faults put_faults'
    → (fault : ScriptFault) → HasBadScript files (run out script operands) fault → IsBadScriptOrMemory end
bad_script_ends law None some end e fault bad = absurd (false≢true some)
bad_script_ends law (Some held) some end e fault bad = script_at law end e fault bad

pub bad_source_ends : {out : Option (List ℕ)} {script : Operand} {operands : List Operand} {files' : Option Files} {missed missed' : Option (List ℕ)} {faults faults' served served' : ℕ} {taken taken' : Option (List ℕ)} {put_faults put_faults' : ℕ}
    → ScriptHasNoFault → (files : Option Files) → IsSome files → (end : Status) → RunEnd files out script operands end files' missed missed' faults faults' served served' taken taken' put_faults put_faults'
    → (word : ℕ) (fault : SourceFault) → HasBadSource files (run out script operands) word fault → IsBadSourceOrMemory end
bad_source_ends law None some end e word fault bad = absurd (false≢true some)
bad_source_ends law (Some held) some end e word fault bad = source_at law end e word fault bad

pub good_input_ends : {out : Option (List ℕ)} {script : Operand} {operands : List Operand} {files' : Option Files} {missed missed' : Option (List ℕ)} {faults faults' served served' : ℕ} {taken taken' : Option (List ℕ)} {put_faults put_faults' : ℕ}
    → ScriptHasNoFault → (files : Option Files) → IsSome files → (end : Status) → RunEnd files out script operands end files' missed missed' faults faults' served served' taken taken' put_faults put_faults'
    → HasGoodInput files (run out script operands) → IsAnswerOrMemory end
good_input_ends law None some end e good = absurd (false≢true some)
good_input_ends law (Some held) some end e good = input_at law end e good
