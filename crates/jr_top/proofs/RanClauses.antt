-- The clauses of a run, whether its words gave a command or none.
use Rattle.std.proofs.Common.{◌≡◌, ◌∙◌, ◌≤◌, ℕ, arith, inl, inr, refl, subst, sym, List, Option, None, Some, OnSome, slice_get}
use Rattle.jr_shelf.specs.Counts.{Rose, RoseBy}
use Rattle.jr_shelf.specs.Shelf.{Files}
use Rattle.jr_words.specs.Words.{Command, Mean, MeanNothing, MeanOneAtMost}
use Rattle.jr_top.specs.declared.statuses.Status.{Status}
use Rattle.jr_top.specs.declared.statuses.Status.TheVariants.{Usage, NoMemory}
use Rattle.jr_top.specs.Ends.{HasBadScript, HasBadSource, ReadsUpTo}
use Rattle.jr_top.specs.Outputs.{WroteAll, WroteInPart}
use Rattle.jr_top.specs.Runs.{Answers, Ask, AskOfGoodInput, AskOfNoScript, AskOfNoSource, FetchesAt, Grants, HadNoFault, IsMisuse, IsUnasked, Ran, Refuses}
use Rattle.jr_top.specs.Statuses.{IsAnswerOrMemory, IsBadScriptOrMemory, IsBadSourceOrMemory, OnAnswer, OnBadScript, OnBadSource, OnDone, OnNoFileFault, OnNoReadFault, OnNothingWritten, OnReadFault, OnRefused, OnWriteFault}
use Rattle.jr_top.proofs.Everywhere.{at_answer, at_no_file_fault, at_no_read_fault, at_nothing_written}
use Rattle.jr_top.proofs.RunClauses.{bad_script_of, bad_source_of, complete_of, done_of, no_script_of, no_source_of, nothing_stored_of, read_fault_of, read_in_order_of, read_missed_of, read_served_of, refused_of, usage_of, write_fault_of}

-- ---- where no command was asked

-- what is so of both ends
unasked : (P : Status → Type 0) (words : List (List ℕ)) (end : Status) → P Usage → P NoMemory → IsUnasked words end → P end
unasked P words end u m (inl told) = subst P (sym told.0) u
unasked P words end u m (inr told) = subst P (sym told.0) m

usage_unasked : (words : List (List ℕ)) (end : Status) → IsUnasked words end → end ≡ Usage → MeanNothing words
usage_unasked words end (inl told) e = told.1
usage_unasked words end (inr told) e = let both : NoMemory ≡ Usage = sym told.0 ∙ e in absurd cc

misuse_unasked : (words : List (List ℕ)) (end : Status) → IsUnasked words end → IsMisuse words end
misuse_unasked words end (inl told) = inl told.0
misuse_unasked words end (inr told) = inr told

-- words that mean a command didn't end as misuse
asked_memory : (P : Status → Type 0) (words : List (List ℕ)) (end : Status) → P NoMemory → IsUnasked words end → (command : Command) → Mean words command → P end
asked_memory P words end m (inl told) command mean = absurd (told.1 command mean)
asked_memory P words end m (inr told) command mean = subst P (sym told.0) m

-- ---- the clauses

module _ {files files' : Option Files} {missed missed' : Option (List ℕ)} {faults faults' served served' : ℕ} {taken taken' : Option (List ℕ)} {put_faults put_faults' : ℕ}
    (words : List (List ℕ)) (end : Status) (ran : Ran words end files files' missed missed' faults faults' served served' taken taken' put_faults put_faults') where
  pub ran_usage : end ≡ Usage → MeanNothing words
  ran_usage e = elim ran [
    | inl u ↦ usage_unasked words end u.0 e
    | inr k ↦ usage_of words k.0 k.1 end k.2 e
  ]

  pub ran_misuse : MeanNothing words → IsMisuse words end
  ran_misuse none = elim ran [
    | inl u ↦ misuse_unasked words end u.0
    | inr k ↦ absurd (none k.0 k.1)
  ]

  pub ran_done : OnDone end (Ask words (λ k. WroteAll k (Grants files k) files files' served served' taken taken'))
  ran_done = elim ran [
    | inl u ↦ unasked (λ e. OnDone e (Ask words (λ k. WroteAll k (Grants files k) files files' served served' taken taken'))) words end tt tt u.0
    | inr k ↦ done_of words k.0 k.1 end k.2
  ]

  pub ran_refused : OnRefused end (Ask words (λ k. WroteAll k (Refuses files k) files files' served served' taken taken'))
  ran_refused = elim ran [
    | inl u ↦ unasked (λ e. OnRefused e (Ask words (λ k. WroteAll k (Refuses files k) files files' served served' taken taken'))) words end tt tt u.0
    | inr k ↦ refused_of words k.0 k.1 end k.2
  ]

  pub ran_read_fault : OnReadFault end (λ word. Rose faults faults')
  ran_read_fault = elim ran [
    | inl u ↦ unasked (λ e. OnReadFault e (λ word. Rose faults faults')) words end tt tt u.0
    | inr k ↦ read_fault_of words k.0 k.1 end k.2
  ]

  pub ran_read_missed : OnReadFault end (λ word. OnSome files (missed' ≡ slice_get words word))
  ran_read_missed = elim ran [
    | inl u ↦ unasked (λ e. OnReadFault e (λ word. OnSome files (missed' ≡ slice_get words word))) words end tt tt u.0
    | inr k ↦ read_missed_of words k.0 k.1 end k.2
  ]

  pub ran_read_served : OnReadFault end (λ word. (number : ℕ) × FetchesAt words word number × RoseBy number served served')
  ran_read_served = elim ran [
    | inl u ↦ unasked (λ e. OnReadFault e (λ word. (number : ℕ) × FetchesAt words word number × RoseBy number served served')) words end tt tt u.0
    | inr k ↦ read_served_of words k.0 k.1 end k.2
  ]

  pub ran_read_in_order : OnReadFault end (λ word. Ask words (λ k. ReadsUpTo files k word))
  ran_read_in_order = elim ran [
    | inl u ↦ unasked (λ e. OnReadFault e (λ word. Ask words (λ k. ReadsUpTo files k word))) words end tt tt u.0
    | inr k ↦ read_in_order_of words k.0 k.1 end k.2
  ]

  pub ran_write_fault : OnWriteFault end (λ stored. Ask words (λ k. WroteInPart k (Answers files k) stored files files' served served' faults faults' taken taken' put_faults put_faults'))
  ran_write_fault = elim ran [
    | inl u ↦ unasked (λ e. OnWriteFault e (λ stored. Ask words (λ k. WroteInPart k (Answers files k) stored files files' served served' faults faults' taken taken' put_faults put_faults'))) words end tt tt u.0
    | inr k ↦ write_fault_of words k.0 k.1 end k.2
  ]

  pub ran_bad_script : OnBadScript end (λ fault. Ask words (λ k. HasBadScript files k fault))
  ran_bad_script = elim ran [
    | inl u ↦ unasked (λ e. OnBadScript e (λ fault. Ask words (λ k. HasBadScript files k fault))) words end tt tt u.0
    | inr k ↦ bad_script_of words k.0 k.1 end k.2
  ]

  pub ran_bad_source : OnBadSource end (λ word fault. Ask words (λ k. HasBadSource files k word fault))
  ran_bad_source = elim ran [
    | inl u ↦ unasked (λ e. OnBadSource e (λ word fault. Ask words (λ k. HasBadSource files k word fault))) words end tt tt u.0
    | inr k ↦ bad_source_of words k.0 k.1 end k.2
  ]

  pub ran_no_script : MeanOneAtMost → AskOfNoScript words files → HadNoFault faults faults' put_faults put_faults' → IsBadScriptOrMemory end
  ran_no_script one ask no_fault = elim ran [
    | inl u ↦ asked_memory IsBadScriptOrMemory words end tt u.0 ask.1.0 ask.1.1
    | inr k ↦ no_script_of words k.0 k.1 one end k.2 ask no_fault
  ]

  pub ran_no_source : MeanOneAtMost → AskOfNoSource words files → HadNoFault faults faults' put_faults put_faults' → IsBadSourceOrMemory end
  ran_no_source one ask no_fault = elim ran [
    | inl u ↦ asked_memory IsBadSourceOrMemory words end tt u.0 ask.1.0 ask.1.1
    | inr k ↦ no_source_of words k.0 k.1 one end k.2 ask no_fault
  ]

  pub ran_complete : MeanOneAtMost → AskOfGoodInput words files → HadNoFault faults faults' put_faults put_faults' → IsAnswerOrMemory end
  ran_complete one ask no_fault = elim ran [
    | inl u ↦ asked_memory IsAnswerOrMemory words end tt u.0 ask.1.0 ask.1.1
    | inr k ↦ complete_of words k.0 k.1 one end k.2 ask no_fault
  ]

  pub ran_nothing_stored : OnNothingWritten end (files' ≡ files)
  ran_nothing_stored = elim ran [
    | inl u ↦ at_nothing_written end _ u.1.keeps
    | inr k ↦ nothing_stored_of words k.0 k.1 end k.2
  ]

  pub ran_missed : OnNoReadFault end (OnSome files (missed' ≡ missed))
  ran_missed = elim ran [
    | inl u ↦ at_no_read_fault end _ u.1.missed_stays
    | inr k ↦ k.2.missed_stays
  ]

  pub ran_faults : faults ≤ faults'
  ran_faults = elim ran [
    | inl u ↦ let same = u.1.faults_stay in omega (arith, same)
    | inr k ↦ k.2.faults_grow
  ]

  pub ran_faults_stay : OnNoFileFault end (faults' ≡ faults)
  ran_faults_stay = elim ran [
    | inl u ↦ at_no_file_fault end _ u.1.faults_stay
    | inr k ↦ k.2.faults_stay
  ]

  pub ran_put_faults : put_faults ≤ put_faults'
  ran_put_faults = elim ran [
    | inl u ↦ let same = u.1.put_stay in omega (arith, same)
    | inr k ↦ k.2.put_grow
  ]

  pub ran_put_stay : OnAnswer end (put_faults' ≡ put_faults)
  ran_put_stay = elim ran [
    | inl u ↦ at_answer end _ u.1.put_stay
    | inr k ↦ k.2.put_stay
  ]

-- nothing was done
pub ran_nothing : {files : Option Files} {missed : Option (List ℕ)} {faults served : ℕ} {taken : Option (List ℕ)} {put_faults : ℕ} (words : List (List ℕ)) (end : Status) → IsUnasked words end
    → Ran words end files files missed missed faults faults served served taken taken put_faults put_faults
ran_nothing {files} {missed} words end told = inl (told, record { keeps = refl; missed_stays = same files missed; faults_stay = refl; put_stay = refl })
  where
    same : (held : Option Files) (name : Option (List ℕ)) → OnSome held (name ≡ name)
    same None name = tt
    same (Some held) name = refl
