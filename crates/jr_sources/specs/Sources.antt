-- The files of a session: names and texts, as contracts see them. No Rust type stands here.
use Rattle.std.specs.Prelude.{
  ◌≡◌,
  ◌≢◌,
  ℕ,
  zero,
  suc,
  ◌<◌,
  ◌≤◌,
  List,
  [],
  ◌∷◌,
  map,
  length,
  sum_by,
  slice_get,
  Some,
  All,
  AllPairs,
}

pub record Source : Type 0 where
  pub name : List ℕ
  pub text : List ℕ

abbrev pub names_of : List Source → List (List ℕ)
names_of sources = map (λ (s : Source). s.name) sources

abbrev pub texts_of : List Source → List (List ℕ)
texts_of sources = map (λ (s : Source). s.text) sources

-- how many files a session has at most, and how many bytes they have in all
abbrev pub file_limit : ℕ
file_limit = 256

abbrev pub total_limit : ℕ
total_limit = 8388608

-- how many bytes texts have in all
abbrev pub total_of : List (List ℕ) → ℕ
total_of texts = sum_by (λ (t : List ℕ). length t) texts

-- the file of this number has this name and this text
abbrev pub IsFile : List Source → ℕ → (name text : List ℕ) → Type 0
IsFile sources number name text =
    slice_get sources number ≡ Some (record { name = name; text = text })

-- the file of this number has this name
abbrev pub HasName : List Source → ℕ → List ℕ → Type 0
HasName sources number name = slice_get (names_of sources) number ≡ Some name

-- no file has the name
abbrev pub LacksFile : List Source → List ℕ → Type 0
LacksFile sources name = All (λ (other : List ℕ). other ≢ name) (names_of sources)

-- no two files have one name
abbrev pub Differ : List Source → Type 0
Differ sources = AllPairs (λ (a b : List ℕ). a ≢ b) (names_of sources)

-- the sources with another text of the file of this number
abbrev pub with_text : List Source → ℕ → List ℕ → List Source
with_text [] number text = []
with_text (s ∷ ss) zero text = record { name = s.name; text = text } ∷ ss
with_text (s ∷ ss) (suc number) text = s ∷ with_text ss number text

-- what all sessions keep of their files
pub record AreSources (sources : List Source) : Type 0 where
  pub few : length sources ≤ file_limit
  pub differ : Differ sources

-- `second` is the first file whose name an earlier file has, and `first` is that file
pub record HaveSameName (files : List Source) (first second : ℕ) : Type 0 where
  pub name : List ℕ
  pub one : HasName files first name
  pub other : HasName files second name
  pub before : first < second
  pub earliest : (i j : ℕ) (a b : List ℕ) → i < j → j < second → HasName files i a
      → HasName files j b → a ≢ b
