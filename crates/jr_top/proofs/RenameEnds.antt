-- How a rename ends, in the words of a run.
use Rattle.std.proofs.Common.{◌≡◌, ◌≤◌, ◌+◌, ◌⊎◌, ℕ, arith, inl, inr, refl, subst, List, [], Option, None, Some, IsSome, IsSomeAnd, OnSome, Bool, true, false}
use Rattle.std.specs.FinMap as map
use Rattle.std.proofs.lemmas.Bool.{false≢true}
use Rattle.jr_shelf.specs.Counts.{RoseBy}
use Rattle.jr_shelf.specs.Shelf.{Files}
use Rattle.jr_text.specs.Texts.{IsText}
use Rattle.jr_words.specs.Words.{rename}
use Rattle.jr_files.specs.declared.faults.SourceFault.{SourceFault}
use Rattle.jr_files.specs.Fetching.{Served}
use Rattle.jr_files.specs.Sources.{HoldsFault, HoldsText, IsSource}
use Rattle.jr_top.specs.declared.statuses.Status.{Status}
use Rattle.jr_top.specs.declared.statuses.Status.TheVariants.{Done, Refused, Usage, ReadFault, WriteFault, BadScript, BadSource, NoMemory}
use Rattle.jr_top.specs.Ends.{EndsUnwritten}
use Rattle.jr_top.specs.Outputs.{WroteAll, WroteInPart}
use Rattle.jr_top.specs.Renames.{EndsAnswered, EndsPut, IsAnswered, IsGranted, IsRefusalLine}
use Rattle.jr_top.specs.Runs.{Answers, Comes, Grants, HadNoFault, Refuses}
use Rattle.jr_top.specs.Statuses.{IsAnswerOrMemory, IsBadSourceOrMemory, IsOfRun, OnAnswer, OnDone, OnNothingWritten, OnRefused, OnWriteFault}
use Rattle.jr_top.proofs.EarlyEnds.{ends_memory}
use Rattle.jr_top.proofs.Everywhere.{at_answer, at_no_file_fault, at_no_read_fault, at_nothing_written}
use Rattle.jr_top.proofs.InputLaws.{faulty_no_text, holds_no_fault}
use Rattle.jr_top.proofs.OneFile.{granted_of, refused_of}
use Rattle.jr_top.proofs.Unwritten.{none_done, none_refused, none_write_fault, run_ends, stays}

-- ---- what is held

-- what is known to hold a text has no fault
text_no_fault : (files : Option Files) (file : List ℕ) (fault : SourceFault) → HoldsText files file → HoldsFault 0 files file fault → ⊥
text_no_fault None file fault text has = text
text_no_fault (Some held) file fault text has = both (map.get held file) text (faulty_no_text held file fault has)
  where
    both : (o : Option (List ℕ)) → IsSomeAnd o IsText → IsSomeAnd o (λ b. IsText b → ⊥) → ⊥
    both None some none = some
    both (Some bytes) some none = none some

-- nor has a source, where it is known what is held
source_no_fault : (files : Option Files) (file source : List ℕ) (fault : SourceFault) → IsSome files → IsSource files file source → HoldsFault 0 files file fault → ⊥
source_no_fault None file source fault known is has = false≢true known
source_no_fault (Some held) file source fault known is has = let small = is.text.within in holds_no_fault held file source 0 fault is.held is.text (omega (arith, small)) has

module _ {files files' : Option Files} {missed missed' : Option (List ℕ)} {faults faults' served served' : ℕ} (file : List ℕ) (at : ℕ) (name : List ℕ) where
  -- ---- where there is no source

  unread_source : {put_faults : ℕ} (end : Status) → EndsUnwritten (rename file at name) end files files' missed missed' faults faults' served served' → HadNoFault faults faults' put_faults put_faults → IsBadSourceOrMemory end
  unread_source Done u n = absurd u.unwritten
  unread_source Refused u n = absurd u.unwritten
  unread_source Usage u n = absurd u.unwritten
  unread_source (ReadFault word) u n = absurd (n.shelf u.unread.rose)
  unread_source (WriteFault stored) u n = absurd u.unwritten
  unread_source (BadScript fault) u n = absurd u.bad_script
  unread_source (BadSource word fault) u n = tt
  unread_source NoMemory u n = tt

  unread_input : {put_faults : ℕ} (end : Status) → EndsUnwritten (rename file at name) end files files' missed missed' faults faults' served served' → HoldsText files file → HadNoFault faults faults' put_faults put_faults → IsAnswerOrMemory end
  unread_input Done u text n = absurd u.unwritten
  unread_input Refused u text n = absurd u.unwritten
  unread_input Usage u text n = absurd u.unwritten
  unread_input (ReadFault word) u text n = absurd (n.shelf u.unread.rose)
  unread_input (WriteFault stored) u text n = absurd u.unwritten
  unread_input (BadScript fault) u text n = absurd u.bad_script
  unread_input (BadSource word fault) u text n = absurd (text_no_fault files file fault text u.bad_source.1)
  unread_input NoMemory u text n = tt

  pub unread_comes : {taken : Option (List ℕ)} {put_faults : ℕ} (end : Status) → EndsUnwritten (rename file at name) end files files' missed missed' faults faults' served served'
      → Comes (rename file at name) end files files' missed missed' faults faults' served served' taken taken put_faults put_faults
  unread_comes end u = record {
    of_run = run_ends end u.unwritten;
    unwritten = at_nothing_written end _ u;
    done = none_done end _ u.unwritten;
    refused = none_refused end _ u.unwritten;
    write_fault = none_write_fault end _ u.unwritten;
    no_script = λ fault known bad no_fault. absurd bad;
    no_source = λ word fault known bad no_fault. unread_source end u no_fault;
    complete = λ known good no_fault. unread_input end u good no_fault;
    missed_stays = u.missed_stays;
    faults_grow = u.faults_grow;
    faults_stay = stays end _ u.unwritten u.faults_stay;
    put_grow = omega arith;
    put_stay = at_answer end _ refl;
  }

  -- ---- where there is one

  module _ (taken taken' : Option (List ℕ)) (put_faults put_faults' : ℕ) (source : List ℕ) (is_source : IsSource files file source) (one : Served 1 files files' missed missed' faults faults' served served') where
    answered_ends : (end : Status) → EndsAnswered file source at name end taken taken' put_faults put_faults' → IsOfRun end
    answered_ends Done a = tt
    answered_ends Refused a = tt
    answered_ends Usage a = a
    answered_ends (ReadFault word) a = tt
    answered_ends (WriteFault stored) a = tt
    answered_ends (BadScript fault) a = tt
    answered_ends (BadSource word fault) a = tt
    answered_ends NoMemory a = tt

    answered_unwritten : (end : Status) → EndsAnswered file source at name end taken taken' put_faults put_faults'
        → OnNothingWritten end (EndsUnwritten (rename file at name) end files files' missed missed' faults faults' served served')
    answered_unwritten Done a = tt
    answered_unwritten Refused a = tt
    answered_unwritten Usage a = absurd a
    answered_unwritten (ReadFault word) a = absurd a
    answered_unwritten (WriteFault stored) a = tt
    answered_unwritten (BadScript fault) a = absurd a
    answered_unwritten (BadSource word fault) a = absurd a
    answered_unwritten NoMemory a = ends_memory (rename file at name) one.keeps one.missed_stays one.faults_stay

    answered_done : (end : Status) → EndsAnswered file source at name end taken taken' put_faults put_faults'
        → OnDone end (WroteAll (rename file at name) (Grants files (rename file at name)) files files' served served' taken taken')
    answered_done Done a = record {
      output = record { stores = []; report = a.0 };
      is_output = (refl, record { source = source; is_source = is_source; grants = a.1 });
      stored = one.keeps;
      took = a.2.took;
      count = one.count;
    }
    answered_done Refused a = tt
    answered_done Usage a = tt
    answered_done (ReadFault word) a = tt
    answered_done (WriteFault stored) a = tt
    answered_done (BadScript fault) a = tt
    answered_done (BadSource word fault) a = tt
    answered_done NoMemory a = tt

    answered_refused : (end : Status) → EndsAnswered file source at name end taken taken' put_faults put_faults'
        → OnRefused end (WroteAll (rename file at name) (Refuses files (rename file at name)) files files' served served' taken taken')
    answered_refused Done a = tt
    answered_refused Refused a = record {
      output = record { stores = []; report = a.0 };
      is_output = (refl, record { source = source; is_source = is_source; line = a.1 });
      stored = one.keeps;
      took = a.2.took;
      count = one.count;
    }
    answered_refused Usage a = tt
    answered_refused (ReadFault word) a = tt
    answered_refused (WriteFault stored) a = tt
    answered_refused (BadScript fault) a = tt
    answered_refused (BadSource word fault) a = tt
    answered_refused NoMemory a = tt

    answered_fault : (end : Status) → EndsAnswered file source at name end taken taken' put_faults put_faults'
        → OnWriteFault end (λ stored. WroteInPart (rename file at name) (Answers files (rename file at name)) stored files files' served served' faults faults' taken taken' put_faults put_faults')
    answered_fault Done a = tt
    answered_fault Refused a = tt
    answered_fault Usage a = tt
    answered_fault (ReadFault word) a = tt
    answered_fault (WriteFault stored) a = record {
      output = record { stores = []; report = a.0 };
      is_output = elim a.1 [
        | inl grants ↦ inl (refl, record { source = source; is_source = is_source; grants = grants })
        | inr line ↦ inr (refl, record { source = source; is_source = is_source; line = line })
      ];
      part = inr (record { all = a.2; whole = one.keeps; shelf_faults_stay = one.faults_stay; rose = a.4.failed; took = a.4.took });
      count = let none = a.2 in let same : 1 ≡ 1 + stored = omega (arith, none) in subst (λ n. RoseBy n served served') same one.count;
    }
    answered_fault (BadScript fault) a = tt
    answered_fault (BadSource word fault) a = tt
    answered_fault NoMemory a = tt

    answered_input : (end : Status) → EndsAnswered file source at name end taken taken' put_faults put_faults' → HadNoFault faults faults' put_faults put_faults' → IsAnswerOrMemory end
    answered_input Done a n = tt
    answered_input Refused a n = tt
    answered_input Usage a n = a
    answered_input (ReadFault word) a n = a
    answered_input (WriteFault stored) a n = absurd (n.sink a.4.failed)
    answered_input (BadScript fault) a n = a
    answered_input (BadSource word fault) a n = a
    answered_input NoMemory a n = tt

    answered_grow : (end : Status) → EndsAnswered file source at name end taken taken' put_faults put_faults' → put_faults ≤ put_faults'
    answered_grow Done a = let same = a.2.unfailed in omega (arith, same)
    answered_grow Refused a = let same = a.2.unfailed in omega (arith, same)
    answered_grow Usage a = absurd a
    answered_grow (ReadFault word) a = absurd a
    answered_grow (WriteFault stored) a = a.3
    answered_grow (BadScript fault) a = absurd a
    answered_grow (BadSource word fault) a = absurd a
    answered_grow NoMemory a = omega (arith, a)

    answered_stay : (end : Status) → EndsAnswered file source at name end taken taken' put_faults put_faults' → OnAnswer end (put_faults' ≡ put_faults)
    answered_stay Done a = a.2.unfailed
    answered_stay Refused a = a.2.unfailed
    answered_stay Usage a = tt
    answered_stay (ReadFault word) a = tt
    answered_stay (WriteFault stored) a = tt
    answered_stay (BadScript fault) a = tt
    answered_stay (BadSource word fault) a = tt
    answered_stay NoMemory a = tt

    pub answered_comes : (end : Status) → EndsAnswered file source at name end taken taken' put_faults put_faults'
        → Comes (rename file at name) end files files' missed missed' faults faults' served served' taken taken' put_faults put_faults'
    answered_comes end a = record {
      of_run = answered_ends end a;
      unwritten = answered_unwritten end a;
      done = answered_done end a;
      refused = answered_refused end a;
      write_fault = answered_fault end a;
      no_script = λ fault known bad no_fault. absurd bad;
      no_source = λ word fault known bad no_fault. absurd (source_no_fault files file source fault known is_source bad.1);
      complete = λ known good no_fault. answered_input end a no_fault;
      missed_stays = at_no_read_fault end _ one.missed_stays;
      faults_grow = let same = one.faults_stay in omega (arith, same);
      faults_stay = at_no_file_fault end _ one.faults_stay;
      put_grow = answered_grow end a;
      put_stay = answered_stay end a;
    }

-- ---- what is put

pub put_nothing : (taken taken' : Option (List ℕ)) (faults faults' : ℕ) (refused : Bool) (output : List ℕ) (end : Status) (P : Type 0) → EndsPut refused output end taken taken' faults faults' → OnNothingWritten end P
put_nothing taken taken' faults faults' refused output Done P e = tt
put_nothing taken taken' faults faults' refused output Refused P e = tt
put_nothing taken taken' faults faults' refused output Usage P e = absurd e
put_nothing taken taken' faults faults' refused output (ReadFault word) P e = absurd e
put_nothing taken taken' faults faults' refused output (WriteFault stored) P e = tt
put_nothing taken taken' faults faults' refused output (BadScript fault) P e = absurd e
put_nothing taken taken' faults faults' refused output (BadSource word fault) P e = absurd e
put_nothing taken taken' faults faults' refused output NoMemory P e = absurd e

either : (file source : List ℕ) (at : ℕ) (name : List ℕ) (refused : Bool) (output : List ℕ) → IsAnswered file source at name refused output
    → IsGranted file source at name output ⊎ IsRefusalLine file source at name output
either file source at name true output is = inr is
either file source at name false output is = inl is

pub put_answered : (taken taken' : Option (List ℕ)) (faults faults' : ℕ) (file source : List ℕ) (at : ℕ) (name : List ℕ) (refused : Bool) (output : List ℕ) → IsAnswered file source at name refused output
    → (end : Status) → EndsPut refused output end taken taken' faults faults' → EndsAnswered file source at name end taken taken' faults faults'
put_answered taken taken' faults faults' file source at name refused output is Done e = (output, granted_of file source at name refused output e.0 is, e.1)
put_answered taken taken' faults faults' file source at name refused output is Refused e = (output, refused_of file source at name refused output e.0 is, e.1)
put_answered taken taken' faults faults' file source at name refused output is Usage e = e
put_answered taken taken' faults faults' file source at name refused output is (ReadFault word) e = e
put_answered taken taken' faults faults' file source at name refused output is (WriteFault stored) e = (output, either file source at name refused output is, e.0, e.1, e.2)
put_answered taken taken' faults faults' file source at name refused output is (BadScript fault) e = e
put_answered taken taken' faults faults' file source at name refused output is (BadSource word fault) e = e
put_answered taken taken' faults faults' file source at name refused output is NoMemory e = absurd e
