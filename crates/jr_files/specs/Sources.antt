-- Which bytes are no source, and which files can't be the sources of a run.
use Rattle.std.specs.Prelude.{
  ◌≡◌,
  ℕ,
  ◌+◌,
  ◌<◌,
  ◌≤◌,
  List,
  ◌∷◌,
  ◌++◌,
  length,
  slice_get,
  sum_by,
  Option,
  Some,
  IsSomeAnd,
  OnSome,
}
use Rattle.std.specs.List.{AllZip}
use Rattle.std.specs.Str.{IsValidUpTo}
use Rattle.std.specs.FinMap as map
use Rattle.jr_shelf.specs.Shelf.{Files, Holds}
use Rattle.jr_text.specs.Texts.{IsText, text_limit}
use Rattle.jr_words.specs.Words.{Operand}
use Rattle.jr_files.specs.declared.faults.SourceFault.{SourceFault}
use Rattle.jr_files.specs.declared.faults.SourceFault.TheVariants.{
  TooMany,
  TooLong,
  NotUtf8,
  TotalTooLong,
}

-- how many files a run has at most, and how many bytes they have in all
abbrev pub file_limit : ℕ
file_limit = 256

abbrev pub total_limit : ℕ
total_limit = 8388608

-- how many bytes texts have in all
abbrev pub total_of : List (List ℕ) → ℕ
total_of texts = sum_by (λ (t : List ℕ). length t) texts

-- ---- sources

-- a text that the file holds, where it is known what is held
pub record IsSource (files : Option Files) (file source : List ℕ) : Type 0 where
  pub held : Holds files file source
  pub text : IsText source

-- each operand's file holds its text
abbrev pub AreSources : Option Files → List Operand → List (List ℕ) → Type 0
AreSources files operands texts =
    AllZip (λ (o : Operand) (t : List ℕ). IsSource files o.text t) operands texts

-- the files hold these texts, and there aren't too many of them, nor of their bytes
pub record AreFetched (files : Option Files) (operands : List Operand)
    (texts : List (List ℕ)) : Type 0 where
  pub few : length operands ≤ file_limit
  pub sources : AreSources files operands texts
  pub within : total_of texts ≤ total_limit

-- ---- faults

-- where so many bytes were read before, the bytes have this fault: they are too many by themselves,
-- or else they aren't UTF-8, and the longest prefix that is has so many bytes, or else they are too
-- many together with those before
abbrev pub HasFault : (before : ℕ) → List ℕ → SourceFault → Type 0
HasFault before bytes TooLong = text_limit < length bytes
HasFault before bytes (NotUtf8 valid) = (length bytes ≤ text_limit) × IsValidUpTo bytes valid
HasFault before bytes (TotalTooLong len) =
    IsText bytes × (len ≡ before + length bytes) × (total_limit < len)
HasFault before bytes (TooMany count) = ⊥

-- it is known what is held, and the name holds bytes of which this is so
abbrev pub HoldsSome : Option Files → List ℕ → (List ℕ → Type 0) → Type 0
HoldsSome files name P = IsSomeAnd files (λ held. IsSomeAnd (map.get held name) P)

-- where it is known what is held, the name holds bytes with this fault
abbrev pub HoldsFault : (before : ℕ) → Option Files → List ℕ → SourceFault → Type 0
HoldsFault before files name fault =
    OnSome files (HoldsSome files name (λ bytes. HasFault before bytes fault))

-- the name is known to hold a text
abbrev pub HoldsText : Option Files → List ℕ → Type 0
HoldsText files name = HoldsSome files name IsText

-- the name is known to hold bytes that are no text
abbrev pub HoldsNoText : Option Files → List ℕ → Type 0
HoldsNoText files name = HoldsSome files name (λ bytes. IsText bytes → ⊥)

-- ---- the first fault of files

-- there are so many files, which are too many, and the word is the first surplus one
pub record AreTooMany (operands : List Operand) (word count : ℕ) : Type 0 where
  pub beyond : file_limit < length operands
  pub counted : count ≡ length operands
  pub surplus : Operand
  pub stands : slice_get operands file_limit ≡ Some surplus
  pub told : word ≡ surplus.word

-- or else the word's file is the first that has a fault, and this is it
pub record IsFirstBad (files : Option Files) (operands : List Operand) (word : ℕ)
    (fault : SourceFault) : Type 0 where
  pub few : length operands ≤ file_limit
  pub front : List Operand
  pub operand : Operand
  pub back : List Operand
  pub split : operands ≡ front ++ operand ∷ back
  pub told : word ≡ operand.word
  pub texts : List (List ℕ)
  pub sources : AreSources files front texts
  pub within : total_of texts ≤ total_limit
  pub has : HoldsFault (total_of texts) files operand.text fault

abbrev pub IsBadSource : Option Files → List Operand → ℕ → SourceFault → Type 0
IsBadSource files operands word (TooMany count) = AreTooMany operands word count
IsBadSource files operands word TooLong = IsFirstBad files operands word TooLong
IsBadSource files operands word (NotUtf8 valid) = IsFirstBad files operands word (NotUtf8 valid)
IsBadSource files operands word (TotalTooLong len) =
    IsFirstBad files operands word (TotalTooLong len)
