-- What the words of a command line mean.
use Rattle.std.specs.Prelude.{
  ◌≡◌,
  ◌≢◌,
  ℕ,
  ◌+◌,
  ◌^◌,
  ◌<◌,
  ◌≤◌,
  ◌⊎◌,
  List,
  [],
  ◌∷◌,
  ◌++◌,
  Option,
  None,
  Some,
  length,
  map,
  slice_index,
  codes,
  String,
  string_bytes,
  AllPairs,
}
use Rattle.std.specs.List.{AllByRecursion}
use Rattle.std.specs.Str.Parse.{IsNumeral, digits_value}

-- a word that names a file, and its number: words are counted from 0
pub record Operand : Type 0 where
  pub word : ℕ
  pub text : List ℕ

-- a command and its parts
pub data Command : Type 0 where
  rename : (file : List ℕ) (at : ℕ) (name : List ℕ) → Command
  run : (out : Option (List ℕ)) (script : Operand) (files : List Operand) → Command

-- the bytes of each word
abbrev pub texts_of : {Z : Type 0} → List (String Z) → List (List ℕ)
texts_of words = map string_bytes words

-- the word that the one option is
abbrev pub out_word : List ℕ
out_word = codes "--out"

-- a word that isn't empty and doesn't begin with `-`
pub record IsPlain (word : List ℕ) : Type 0 where
  pub some : 0 < length word
  pub no_option : slice_index word 0 ≢ 45

abbrev pub ArePlain : List (List ℕ) → Type 0
ArePlain words = AllByRecursion IsPlain words

-- one or more decimal digits of this value, which is at most 4,294,967,295
pub record IsPlace (word : List ℕ) (at : ℕ) : Type 0 where
  pub numeral : IsNumeral 10 word
  pub value : at ≡ digits_value 10 word
  pub fits : at < 2 ^ 32

-- what each command line keeps to: a word that isn't plain is the option
pub record AreWords (words : List (List ℕ)) : Type 0 where
  pub count : length words ≤ 65536
  pub each : AllByRecursion (λ word. IsPlain word ⊎ (word ≡ out_word)) words

-- ---- the commands

-- the words `rename FILE AT NAME`
pub record IsRename (words : List (List ℕ)) (file : List ℕ) (at : ℕ)
    (name : List ℕ) : Type 0 where
  pub place : List ℕ
  pub is_place : IsPlace place at
  pub words_are : words ≡ codes "rename" ∷ file ∷ place ∷ name ∷ []
  pub plain : ArePlain words

-- the words with their numbers, of which the first is `number`
abbrev pub numbered : ℕ → List (List ℕ) → List Operand
numbered number [] = []
numbered number (word ∷ words) = record { word = number; text = word } ∷ numbered (number + 1) words

-- the words behind `run` have this folder and these operands: the option and its folder are two
-- words anywhere among the operands, or there is no option
abbrev pub HaveOperands : List (List ℕ) → Option (List ℕ) → List Operand → Type 0
HaveOperands words None operands = ArePlain words × (operands ≡ numbered 1 words)
HaveOperands words (Some dir) operands = (front : List (List ℕ)) × (back : List (List ℕ))
    × (words ≡ front ++ out_word ∷ dir ∷ back) × ArePlain front × IsPlain dir × ArePlain back
    × (operands ≡ numbered 1 front ++ numbered (length front + 3) back)

-- no two operands have one text
abbrev pub Differ : List Operand → Type 0
Differ operands = AllPairs (λ (a b : List ℕ). a ≢ b) (map (λ (o : Operand). o.text) operands)

-- the words `run [--out DIR] SCRIPT FILE..`
pub record IsRun (words : List (List ℕ)) (out : Option (List ℕ)) (script : Operand)
    (files : List Operand) : Type 0 where
  pub rest : List (List ℕ)
  pub begins : words ≡ codes "run" ∷ rest
  pub operands : HaveOperands rest out (script ∷ files)
  pub differ : Differ files

-- the words name the command and its parts
abbrev pub Name : List (List ℕ) → Command → Type 0
Name words (rename file at name) = IsRename words file at name
Name words (run out script files) = IsRun words out script files

-- the words mean the command
pub record Mean (words : List (List ℕ)) (command : Command) : Type 0 where
  pub well_formed : AreWords words
  pub names : Name words command

-- they mean no command
abbrev pub MeanNothing : List (List ℕ) → Type 0
MeanNothing words = (command : Command) → Mean words command → ⊥

-- they mean one command at most
abbrev pub MeanOneAtMost : Type 0
MeanOneAtMost = (words : List (List ℕ)) (one other : Command) → Mean words one → Mean words other →
    one ≡ other

-- the operands that a command fetches, in order
abbrev pub fetched_of : Command → List Operand
fetched_of (rename file at name) = record { word = 1; text = file } ∷ []
fetched_of (run out script files) = script ∷ files

-- the words of a run that pass the check which takes no memory
pub record MayWantMemory (words : List (List ℕ)) : Type 0 where
  pub well_formed : AreWords words
  pub rest : List (List ℕ)
  pub begins : words ≡ codes "run" ∷ rest
