-- The table of the steps that a script may ask for: a row a word.
use Rattle.std.specs.Prelude.{◌≡◌, ◌⊎◌, ℕ, ◌≤◌, List, [], ◌∷◌, map, codes}
use Rattle.serde_json.specs.Data.{Data, string, number, unsigned}

-- what stands at a member: any string, an offset, or what is shown
pub data Kind : Type 0 where
  text : Kind
  offset : Kind
  shown : Kind

-- An offset is a whole number that isn't negative, as `serde_json` keeps it. Bindings are shown, or
-- dependences.
abbrev pub IsOf : Kind → Data → Type 0
IsOf text value = (s : List ℕ) × (value ≡ string s)
IsOf offset value = (n : ℕ) × (n ≤ 4294967295) × (value ≡ number (unsigned n))
IsOf shown value =
    (value ≡ string (codes "bindings")) ⊎ (value ≡ string (codes "dependences"))

-- a member of a row
pub record Column : Type 0 where
  pub name : List ℕ
  pub kind : Kind

abbrev pub column : List ℕ → Kind → Column
column name kind = record { name = name; kind = kind }

-- a step's word, and the members beside it, in order
pub record Row : Type 0 where
  pub word : List ℕ
  pub columns : List Column

abbrev pub row : List ℕ → List Column → Row
row word columns = record { word = word; columns = columns }

abbrev pub edit_row : Row
edit_row = row (codes "edit") (column (codes "file") text ∷ column (codes "from") offset
    ∷ column (codes "to") offset ∷ column (codes "text") text ∷ [])

abbrev pub rename_row : Row
rename_row = row (codes "rename") (column (codes "file") text ∷ column (codes "at") offset
    ∷ column (codes "name") text ∷ [])

abbrev pub show_row : Row
show_row = row (codes "show") (column (codes "file") text ∷ column (codes "what") shown ∷ [])

abbrev pub undo_row : Row
undo_row = row (codes "undo") []

abbrev pub redo_row : Row
redo_row = row (codes "redo") []

abbrev pub extract_local_row : Row
extract_local_row = row (codes "extract_local") (column (codes "file") text
    ∷ column (codes "from") offset ∷ column (codes "to") offset ∷ column (codes "name") text ∷ [])

-- the steps that are built: every other word is unknown
abbrev pub rows : List Row
rows =
    edit_row ∷ rename_row ∷ show_row ∷ undo_row ∷ redo_row ∷ extract_local_row ∷ []

-- the member that has the word
abbrev pub word_name : List ℕ
word_name = codes "step"

-- the names of all members of a row's object
abbrev pub names_of : List Column → List (List ℕ)
names_of columns = word_name ∷ map (λ c. c.name) columns
