-- The clauses of a run, from all that is known of its end.
use Rattle.std.proofs.Common.{◌≡◌, ◌∙◌, ℕ, ap, subst, sym, List, Option, None, Some, OnSome, slice_get}
use Rattle.jr_shelf.specs.Counts.{Rose, RoseBy}
use Rattle.jr_shelf.specs.Shelf.{Files}
use Rattle.jr_words.specs.Words.{Command, Mean, MeanNothing, MeanOneAtMost}
use Rattle.jr_top.specs.declared.statuses.Status.{Status}
use Rattle.jr_top.specs.declared.statuses.Status.TheVariants.{Done, Refused, Usage, ReadFault, WriteFault, BadScript, BadSource, NoMemory}
use Rattle.jr_top.specs.Ends.{HasBadScript, HasBadSource, HasGoodInput, ReadsUpTo}
use Rattle.jr_top.specs.Outputs.{WroteAll, WroteInPart}
use Rattle.jr_top.specs.Runs.{Answers, Ask, AskOfGoodInput, AskOfNoScript, AskOfNoSource, Comes, FetchesAt, Grants, HadNoFault, Refuses}
use Rattle.jr_top.specs.Statuses.{IsAnswerOrMemory, IsBadScriptOrMemory, IsBadSourceOrMemory, IsOfRun, OnBadScript, OnBadSource, OnDone, OnNothingWritten, OnReadFault, OnRefused, OnWriteFault}
use Rattle.jr_top.proofs.WordPlaces.{operand_in_words}

known_as : (files : Option Files) (a b c : Option (List ℕ)) → b ≡ c → OnSome files (a ≡ b) → OnSome files (a ≡ c)
known_as None a b c e h = tt
known_as (Some f) a b c e h = h ∙ e

module _ {files files' : Option Files} {missed missed' : Option (List ℕ)} {faults faults' served served' : ℕ} {taken taken' : Option (List ℕ)} {put_faults put_faults' : ℕ}
    (words : List (List ℕ)) (command : Command) (mean : Mean words command) where
  pub usage_of : (end : Status) → Comes command end files files' missed missed' faults faults' served served' taken taken' put_faults put_faults' → end ≡ Usage → MeanNothing words
  usage_of end comes e = absurd (subst IsOfRun e comes.of_run)

  pub done_of : (end : Status) → Comes command end files files' missed missed' faults faults' served served' taken taken' put_faults put_faults' → OnDone end (Ask words (λ k. WroteAll k (Grants files k) files files' served served' taken taken'))
  done_of Done comes = (command, mean, comes.done)
  done_of Refused comes = tt
  done_of Usage comes = tt
  done_of (ReadFault word) comes = tt
  done_of (WriteFault stored) comes = tt
  done_of (BadScript fault) comes = tt
  done_of (BadSource word fault) comes = tt
  done_of NoMemory comes = tt

  pub refused_of : (end : Status) → Comes command end files files' missed missed' faults faults' served served' taken taken' put_faults put_faults' → OnRefused end (Ask words (λ k. WroteAll k (Refuses files k) files files' served served' taken taken'))
  refused_of Done comes = tt
  refused_of Refused comes = (command, mean, comes.refused)
  refused_of Usage comes = tt
  refused_of (ReadFault word) comes = tt
  refused_of (WriteFault stored) comes = tt
  refused_of (BadScript fault) comes = tt
  refused_of (BadSource word fault) comes = tt
  refused_of NoMemory comes = tt

  pub write_fault_of : (end : Status) → Comes command end files files' missed missed' faults faults' served served' taken taken' put_faults put_faults'
      → OnWriteFault end (λ stored. Ask words (λ k. WroteInPart k (Answers files k) stored files files' served served' faults faults' taken taken' put_faults put_faults'))
  write_fault_of Done comes = tt
  write_fault_of Refused comes = tt
  write_fault_of Usage comes = tt
  write_fault_of (ReadFault word) comes = tt
  write_fault_of (WriteFault stored) comes = (command, mean, comes.write_fault)
  write_fault_of (BadScript fault) comes = tt
  write_fault_of (BadSource word fault) comes = tt
  write_fault_of NoMemory comes = tt

  pub read_fault_of : (end : Status) → Comes command end files files' missed missed' faults faults' served served' taken taken' put_faults put_faults' → OnReadFault end (λ word. Rose faults faults')
  read_fault_of Done comes = tt
  read_fault_of Refused comes = tt
  read_fault_of Usage comes = tt
  read_fault_of (ReadFault word) comes = comes.unwritten.unread.rose
  read_fault_of (WriteFault stored) comes = tt
  read_fault_of (BadScript fault) comes = tt
  read_fault_of (BadSource word fault) comes = tt
  read_fault_of NoMemory comes = tt

  pub read_missed_of : (end : Status) → Comes command end files files' missed missed' faults faults' served served' taken taken' put_faults put_faults' → OnReadFault end (λ word. OnSome files (missed' ≡ slice_get words word))
  read_missed_of Done comes = tt
  read_missed_of Refused comes = tt
  read_missed_of Usage comes = tt
  read_missed_of (ReadFault word) comes = let u = comes.unwritten.unread in known_as files missed' (Some u.operand.text) (slice_get words word) (sym (ap (slice_get words) u.told ∙ operand_in_words words command mean u.number u.operand u.stands)) u.names
  read_missed_of (WriteFault stored) comes = tt
  read_missed_of (BadScript fault) comes = tt
  read_missed_of (BadSource word fault) comes = tt
  read_missed_of NoMemory comes = tt

  pub read_served_of : (end : Status) → Comes command end files files' missed missed' faults faults' served served' taken taken' put_faults put_faults' → OnReadFault end (λ word. (number : ℕ) × FetchesAt words word number × RoseBy number served served')
  read_served_of Done comes = tt
  read_served_of Refused comes = tt
  read_served_of Usage comes = tt
  read_served_of (ReadFault word) comes = let u = comes.unwritten.unread in (u.number, (command, mean, (u.operand, u.stands, sym u.told)), u.count)
  read_served_of (WriteFault stored) comes = tt
  read_served_of (BadScript fault) comes = tt
  read_served_of (BadSource word fault) comes = tt
  read_served_of NoMemory comes = tt

  pub read_in_order_of : (end : Status) → Comes command end files files' missed missed' faults faults' served served' taken taken' put_faults put_faults' → OnReadFault end (λ word. Ask words (λ k. ReadsUpTo files k word))
  read_in_order_of Done comes = tt
  read_in_order_of Refused comes = tt
  read_in_order_of Usage comes = tt
  read_in_order_of (ReadFault word) comes = (command, mean, comes.unwritten.in_order)
  read_in_order_of (WriteFault stored) comes = tt
  read_in_order_of (BadScript fault) comes = tt
  read_in_order_of (BadSource word fault) comes = tt
  read_in_order_of NoMemory comes = tt

  pub bad_script_of : (end : Status) → Comes command end files files' missed missed' faults faults' served served' taken taken' put_faults put_faults' → OnBadScript end (λ fault. Ask words (λ k. HasBadScript files k fault))
  bad_script_of Done comes = tt
  bad_script_of Refused comes = tt
  bad_script_of Usage comes = tt
  bad_script_of (ReadFault word) comes = tt
  bad_script_of (WriteFault stored) comes = tt
  bad_script_of (BadScript fault) comes = (command, mean, comes.unwritten.bad_script)
  bad_script_of (BadSource word fault) comes = tt
  bad_script_of NoMemory comes = tt

  pub bad_source_of : (end : Status) → Comes command end files files' missed missed' faults faults' served served' taken taken' put_faults put_faults' → OnBadSource end (λ word fault. Ask words (λ k. HasBadSource files k word fault))
  bad_source_of Done comes = tt
  bad_source_of Refused comes = tt
  bad_source_of Usage comes = tt
  bad_source_of (ReadFault word) comes = tt
  bad_source_of (WriteFault stored) comes = tt
  bad_source_of (BadScript fault) comes = tt
  bad_source_of (BadSource word fault) comes = (command, mean, comes.unwritten.bad_source)
  bad_source_of NoMemory comes = tt

  pub nothing_stored_of : (end : Status) → Comes command end files files' missed missed' faults faults' served served' taken taken' put_faults put_faults' → OnNothingWritten end (files' ≡ files)
  nothing_stored_of Done comes = tt
  nothing_stored_of Refused comes = tt
  nothing_stored_of Usage comes = comes.unwritten.keeps
  nothing_stored_of (ReadFault word) comes = comes.unwritten.keeps
  nothing_stored_of (WriteFault stored) comes = tt
  nothing_stored_of (BadScript fault) comes = comes.unwritten.keeps
  nothing_stored_of (BadSource word fault) comes = comes.unwritten.keeps
  nothing_stored_of NoMemory comes = comes.unwritten.keeps

  pub no_script_of : MeanOneAtMost → (end : Status) → Comes command end files files' missed missed' faults faults' served served' taken taken' put_faults put_faults' → AskOfNoScript words files → HadNoFault faults faults' put_faults put_faults' → IsBadScriptOrMemory end
  no_script_of one end comes (known, ask) no_fault = comes.no_script ask.2.0 known (subst (λ k. HasBadScript files k ask.2.0) (one words ask.0 command ask.1 mean) ask.2.1) no_fault

  pub no_source_of : MeanOneAtMost → (end : Status) → Comes command end files files' missed missed' faults faults' served served' taken taken' put_faults put_faults' → AskOfNoSource words files → HadNoFault faults faults' put_faults put_faults' → IsBadSourceOrMemory end
  no_source_of one end comes (known, ask) no_fault = comes.no_source ask.2.0 ask.2.1 known (subst (λ k. HasBadSource files k ask.2.0 ask.2.1) (one words ask.0 command ask.1 mean) ask.2.2) no_fault

  pub complete_of : MeanOneAtMost → (end : Status) → Comes command end files files' missed missed' faults faults' served served' taken taken' put_faults put_faults' → AskOfGoodInput words files → HadNoFault faults faults' put_faults put_faults' → IsAnswerOrMemory end
  complete_of one end comes (known, ask) no_fault = comes.complete known (subst (HasGoodInput files) (one words ask.0 command ask.1 mean) ask.2) no_fault
