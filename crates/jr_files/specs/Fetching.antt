-- What fetches leave of a shelf, and how they end.
use Rattle.std.specs.Prelude.{◌≡◌, ℕ, ◌≤◌, List, ◌∷◌, ◌++◌, length, Option, Some, OnSome, slice_get}
use Rattle.jr_shelf.specs.Counts.{Rose, RoseBy}
use Rattle.jr_shelf.specs.Shelf.{Files}
use Rattle.jr_words.specs.Words.{Operand}
use Rattle.jr_files.specs.declared.faults.FilesFault.{FilesFault}
use Rattle.jr_files.specs.declared.faults.FilesFault.TheVariants.{Unread, BadSource, Memory}
use Rattle.jr_files.specs.declared.faults.SourceFault.{SourceFault}
use Rattle.jr_files.specs.declared.faults.SourceFault.TheVariants.{
  TooMany,
  TooLong,
  NotUtf8,
  TotalTooLong,
}
use Rattle.jr_files.specs.Sources.{AreSources, HoldsFault, IsBadSource}
use Rattle.jr_files.specs.Sources.{file_limit, total_limit, total_of}

-- n calls were served, none failed, and the shelf holds what it held
pub record Served (n : ℕ) (files files' : Option Files) (missed missed' : Option (List ℕ))
    (faults faults' served served' : ℕ) : Type 0 where
  pub keeps : files' ≡ files
  pub missed_stays : OnSome files (missed' ≡ missed)
  pub faults_stay : faults' ≡ faults
  pub count : RoseBy n served served'

-- the fetch of this word's file failed, once those of all operands in front of it were served: the
-- count of faults rose, its name is the one that was missed, and each fetch before was served
pub record IsUnread (files : Option Files) (operands : List Operand) (word : ℕ)
    (missed' : Option (List ℕ)) (faults faults' served served' : ℕ) : Type 0 where
  pub number : ℕ
  pub operand : Operand
  pub stands : slice_get operands number ≡ Some operand
  pub told : word ≡ operand.word
  pub rose : Rose faults faults'
  pub names : OnSome files (missed' ≡ Some operand.text)
  pub count : RoseBy number served served'

-- nothing in front of this word's file has a fault: there aren't too many operands, and the files
-- of those in front hold texts, of not too many bytes
pub record IsInOrder (files : Option Files) (operands : List Operand) (word : ℕ) : Type 0 where
  pub few : length operands ≤ file_limit
  pub front : List Operand
  pub operand : Operand
  pub back : List Operand
  pub split : operands ≡ front ++ operand ∷ back
  pub told : word ≡ operand.word
  pub texts : List (List ℕ)
  pub sources : AreSources files front texts
  pub within : total_of texts ≤ total_limit

-- a fact of the word whose file can't be read
abbrev pub OnUnread : FilesFault → (ℕ → Type 0) → Type 0
OnUnread (Unread word) P = P word
OnUnread (BadSource word fault) P = Unit {0}
OnUnread Memory P = Unit {0}

-- a fact where no fetch failed
abbrev pub UnlessUnread : FilesFault → Type 0 → Type 0
UnlessUnread (Unread word) P = Unit {0}
UnlessUnread (BadSource word fault) P = P
UnlessUnread Memory P = P

-- a word's file is told as no source only where it is the first such
abbrev pub IsFilesFault : Option Files → List Operand → FilesFault → Type 0
IsFilesFault files operands (Unread word) = Unit {0}
IsFilesFault files operands (BadSource word fault) = IsBadSource files operands word fault
IsFilesFault files operands Memory = Unit {0}

-- ---- for private clauses

-- the fault is one of a file by itself
abbrev pub IsOfOne : SourceFault → Type 0
IsOfOne TooLong = Unit {0}
IsOfOne (NotUtf8 valid) = Unit {0}
IsOfOne (TooMany count) = ⊥
IsOfOne (TotalTooLong len) = ⊥

-- of one file: it is told as no source only where it is none, whatever was read before
pub record IsOneBad (files : Option Files) (operand : Operand) (word : ℕ)
    (fault : SourceFault) : Type 0 where
  pub told : word ≡ operand.word
  pub has : (before : ℕ) → HoldsFault before files operand.text fault
  pub single : IsOfOne fault

abbrev pub IsOneFault : FilesFault → Option Files → Operand → Type 0
IsOneFault (Unread word) files operand = Unit {0}
IsOneFault (BadSource word fault) files operand = IsOneBad files operand word fault
IsOneFault Memory files operand = Unit {0}
