-- How a run ends before it writes anything.
use Rattle.std.proofs.Common.{◌≡◌, ◌≢◌, ◌∙◌, ◌<◌, ◌≤◌, ◌+◌, ◌^◌, ℕ, suc, arith, inl, inr, refl, sym, subst, List, [], ◌∷◌, length, Option, None, Some, Result, Err, OnSome, IsSomeAnd}
use Rattle.std.specs.FinMap as map
use Rattle.jr_shelf.specs.Counts.{Rose, RoseBy}
use Rattle.jr_shelf.specs.declared.faults.FetchFault.{FetchFault}
use Rattle.jr_shelf.specs.declared.faults.FetchFault.TheVariants.{Failed}
use Rattle.jr_shelf.specs.Fetch.{OnFailed, missed_after}
use Rattle.jr_shelf.specs.Shelf.{Files, Holds}
use Rattle.jr_script.specs.declared.faults.ScriptFault.{ScriptFault}
use Rattle.jr_script.specs.declared.faults.ScriptFault.TheVariants as script_fault
use Rattle.jr_names.specs.declared.steps.Step.{Step}
use Rattle.jr_script.specs.ScriptFaults.{IsScriptFault}
use Rattle.jr_words.specs.Words.{Command, Operand, fetched_of, run}
use Rattle.jr_files.specs.declared.faults.FilesFault.{FilesFault}
use Rattle.jr_files.specs.declared.faults.FilesFault.TheVariants.{Unread, BadSource, Memory}
use Rattle.jr_files.specs.declared.faults.SourceFault.{SourceFault}
use Rattle.jr_files.specs.Fetching.{IsFilesFault, IsInOrder, IsUnread, OnUnread, Served, UnlessUnread}
use Rattle.jr_files.specs.Sources.{HoldsSome, IsBadSource}
use Rattle.jr_files.proofs.Counting.{rose_sum, known_then}
use Rattle.jr_top.specs.declared.statuses.Status.TheVariants as status
use Rattle.jr_top.specs.Ends.{EndsUnwritten, HasBadScript, HasBadSource, ReadsUpTo, fault_status}
use Rattle.jr_top.specs.Scripts.{HoldsScript}

-- ---- the four ends

module _ {files files' : Option Files} {missed missed' : Option (List ℕ)} {faults faults' served served' : ℕ} where
  pub ends_unread : (command : Command) (word : ℕ) → IsUnread files (fetched_of command) word missed' faults faults' served served' → ReadsUpTo files command word → files' ≡ files → faults ≤ faults'
      → EndsUnwritten command (status.ReadFault word) files files' missed missed' faults faults' served served'
  ends_unread command word unread in_order keeps grow = record {
    unwritten = tt;
    unread = unread;
    in_order = in_order;
    bad_script = tt;
    bad_source = tt;
    keeps = keeps;
    missed_stays = tt;
    faults_stay = tt;
    faults_grow = grow;
  }

  pub ends_bad_script : (command : Command) (fault : ScriptFault) → HasBadScript files command fault → files' ≡ files → OnSome files (missed' ≡ missed) → faults' ≡ faults
      → EndsUnwritten command (status.BadScript fault) files files' missed missed' faults faults' served served'
  ends_bad_script command fault bad keeps same stay = record {
    unwritten = tt;
    unread = tt;
    in_order = tt;
    bad_script = bad;
    bad_source = tt;
    keeps = keeps;
    missed_stays = same;
    faults_stay = stay;
    faults_grow = omega (arith, stay);
  }

  pub ends_bad_source : (command : Command) (word : ℕ) (fault : SourceFault) → HasBadSource files command word fault → files' ≡ files → OnSome files (missed' ≡ missed) → faults' ≡ faults
      → EndsUnwritten command (status.BadSource word fault) files files' missed missed' faults faults' served served'
  ends_bad_source command word fault bad keeps same stay = record {
    unwritten = tt;
    unread = tt;
    in_order = tt;
    bad_script = tt;
    bad_source = bad;
    keeps = keeps;
    missed_stays = same;
    faults_stay = stay;
    faults_grow = omega (arith, stay);
  }

  pub ends_memory : (command : Command) → files' ≡ files → OnSome files (missed' ≡ missed) → faults' ≡ faults → EndsUnwritten command status.NoMemory files files' missed missed' faults faults' served served'
  ends_memory command keeps same stay = record {
    unwritten = tt;
    unread = tt;
    in_order = tt;
    bad_script = tt;
    bad_source = tt;
    keeps = keeps;
    missed_stays = same;
    faults_stay = stay;
    faults_grow = omega (arith, stay);
  }

-- ---- the script

-- what is so where the fetch of this answer failed
pub where_failed : {T : Type 0} (answer : Result T FetchFault) (P : Type 0) (fault : FetchFault) → fault ≡ Failed → OnFailed {T = T} (Err fault) P → P
where_failed {T} answer P fault is fact = subst (λ (f : FetchFault). OnFailed {T = T} (Err f) P) is fact

pub where_missed : {T : Type 0} (answer : Result T FetchFault) (files : Option Files) (missed missed' : Option (List ℕ)) (name : List ℕ) (fault : FetchFault) → fault ≡ Failed → OnSome files (missed' ≡ missed_after {T = T} (Err fault) name missed)
    → OnSome files (missed' ≡ Some name)
where_missed {T} answer files missed missed' name fault is fact = subst (λ (f : FetchFault). OnSome files (missed' ≡ missed_after {T = T} (Err f) name missed)) is fact

pub script_unread : (files : Option Files) (script : Operand) (operands : List Operand) (missed' : Option (List ℕ)) (faults faults' served served' : ℕ) → Rose faults faults' → OnSome files (missed' ≡ Some script.text) → served' ≡ served
    → IsUnread files (script ∷ operands) script.word missed' faults faults' served served'
script_unread files script operands missed' faults faults' served served' rose names same = record {
  number = 0;
  operand = script;
  stands = refl;
  told = refl;
  rose = rose;
  names = names;
  count = inl (omega (arith, same));
}

pub known_held : (files : Option Files) (name bytes : List ℕ) (P : List ℕ → Type 0) → Holds files name bytes → P bytes → OnSome files (HoldsSome files name P)
known_held None name bytes P held is = tt
known_held (Some files) name bytes P held is = subst (λ (o : Option (List ℕ)). IsSomeAnd o P) (sym held) is

pub too_long_is_fault : script_fault.TooLong ≢ script_fault.Memory
too_long_is_fault e = absurd cc

-- ---- the files

-- a fault of the files, behind the script
pub behind_script : (out : Option (List ℕ)) (script : Operand) (operands : List Operand) (steps : List Step) (f f' f'' : Option Files) (a a' a'' : Option (List ℕ)) (x x' x'' y y' y'' : ℕ) → y'' < 2 ^ 64
    → HoldsScript f script.text steps → Served 1 f f' a a' x x' y y' → (fault : FilesFault) → IsFilesFault f' operands fault → OnUnread fault (λ word. IsUnread f' operands word a'' x' x'' y' y'') → OnUnread fault (IsInOrder f' operands)
    → f'' ≡ f' → UnlessUnread fault (OnSome f' (a'' ≡ a')) → UnlessUnread fault (x'' ≡ x') → x' ≤ x''
    → EndsUnwritten (run out script operands) (fault_status fault) f f'' a a'' x x'' y y''
behind_script out script operands steps f f' f'' a a' a'' x x' x'' y y' y'' fits holds one (Unread word) is unread in_order keeps same stay grow = ends_unread (run out script operands) word (record {
  number = suc unread.number;
  operand = unread.operand;
  stands = unread.stands;
  told = unread.told;
  rose = subst (λ n. Rose n x'') one.faults_stay unread.rose;
  names = subst (λ h. OnSome h (a'' ≡ Some unread.operand.text)) one.keeps unread.names;
  count = let more = rose_sum 1 unread.number y y' y'' fits one.count unread.count in let n : 1 + unread.number ≡ suc unread.number = omega arith in subst (λ k. RoseBy k y y'') n more;
}) (inr (steps, holds, subst (λ h. IsInOrder h operands word) one.keeps in_order)) (keeps ∙ one.keeps) (let e = one.faults_stay in omega (arith, e, grow))
behind_script out script operands steps f f' f'' a a' a'' x x' x'' y y' y'' fits holds one (BadSource word fault) is unread in_order keeps same stay grow =
    ends_bad_source (run out script operands) word fault (steps, holds, subst (λ h. IsBadSource h operands word fault) one.keeps is) (keeps ∙ one.keeps)
    (known_then f a a' a'' one.missed_stays (subst (λ h. OnSome h (a'' ≡ a')) one.keeps same)) (stay ∙ one.faults_stay)
behind_script out script operands steps f f' f'' a a' a'' x x' x'' y y' y'' fits holds one Memory is unread in_order keeps same stay grow =
    ends_memory (run out script operands) (keeps ∙ one.keeps) (known_then f a a' a'' one.missed_stays (subst (λ h. OnSome h (a'' ≡ a')) one.keeps same)) (stay ∙ one.faults_stay)
