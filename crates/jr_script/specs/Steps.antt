-- Which object is which step.
use Rattle.std.specs.Prelude.{◌≡◌, ℕ, List, [], ◌∷◌, map, codes, Some, IsSome, All, Contains}
use Rattle.serde_json.specs.Data.{Data, string, number, unsigned}
use Rattle.serde_json.specs.Find.{get}
use Rattle.jr_names.specs.declared.steps.What.{What}
use Rattle.jr_names.specs.declared.steps.What.TheVariants.{Bindings, Dependences}
use Rattle.jr_names.specs.declared.steps.Step.{Step}
use Rattle.jr_names.specs.declared.steps.Step.TheVariants.{Edit, Rename, ExtractLocal}
use Rattle.jr_names.specs.declared.steps.Step.TheVariants.{ExtractMethod, InlineLocal, InlineMethod}
use Rattle.jr_names.specs.declared.steps.Step.TheVariants.{PullUp, MoveStatic, MoveInstance, Show}
use Rattle.jr_names.specs.declared.steps.Step.TheVariants.{Undo, Redo}
use Rattle.jr_script.specs.Rows.{text, offset, shown, IsOf, Column, column, row, rows, word_name}
use Rattle.jr_script.specs.Rows.{names_of}

-- a member, and the value that stands there
pub record Cell : Type 0 where
  pub column : Column
  pub value : Data

abbrev pub text_at : List ℕ → List ℕ → Cell
text_at name s = record { column = column name text; value = string s }

abbrev pub offset_at : List ℕ → ℕ → Cell
offset_at name n = record { column = column name offset; value = number (unsigned n) }

abbrev pub what_text : What → List ℕ
what_text Bindings = codes "bindings"
what_text Dependences = codes "dependences"

abbrev pub shown_at : List ℕ → What → Cell
shown_at name what = record { column = column name shown; value = string (what_text what) }

abbrev pub word_of : Step → List ℕ
word_of (Edit file from to new) = codes "edit"
word_of (Rename file at name) = codes "rename"
word_of (ExtractLocal file from to name) = codes "extract_local"
word_of (ExtractMethod file from to name) = codes "extract_method"
word_of (InlineLocal file at) = codes "inline_local"
word_of (InlineMethod file at) = codes "inline_method"
word_of (PullUp file at) = codes "pull_up"
word_of (MoveStatic file at class) = codes "move_static"
word_of (MoveInstance file at class name) = codes "move_instance"
word_of (Show file what) = codes "show"
word_of Undo = codes "undo"
word_of Redo = codes "redo"

-- the members of a step beside its word, in the order of its row
abbrev pub cells_of : Step → List Cell
cells_of (Edit file from to new) =
    text_at (codes "file") file ∷ offset_at (codes "from") from ∷ offset_at (codes "to") to
    ∷ text_at (codes "text") new ∷ []
cells_of (Rename file at name) =
    text_at (codes "file") file ∷ offset_at (codes "at") at ∷ text_at (codes "name") name ∷ []
cells_of (ExtractLocal file from to name) =
    text_at (codes "file") file ∷ offset_at (codes "from") from ∷ offset_at (codes "to") to
    ∷ text_at (codes "name") name ∷ []
cells_of (ExtractMethod file from to name) =
    text_at (codes "file") file ∷ offset_at (codes "from") from ∷ offset_at (codes "to") to
    ∷ text_at (codes "name") name ∷ []
cells_of (InlineLocal file at) = text_at (codes "file") file ∷ offset_at (codes "at") at ∷ []
cells_of (InlineMethod file at) = text_at (codes "file") file ∷ offset_at (codes "at") at ∷ []
cells_of (PullUp file at) = text_at (codes "file") file ∷ offset_at (codes "at") at ∷ []
cells_of (MoveStatic file at class) =
    text_at (codes "file") file ∷ offset_at (codes "at") at ∷ text_at (codes "class") class ∷ []
cells_of (MoveInstance file at class name) =
    text_at (codes "file") file ∷ offset_at (codes "at") at ∷ text_at (codes "class") class
    ∷ text_at (codes "name") name ∷ []
cells_of (Show file what) = text_at (codes "file") file ∷ shown_at (codes "what") what ∷ []
cells_of Undo = []
cells_of Redo = []

abbrev pub columns_of : Step → List Column
columns_of s = map (λ c. c.column) (cells_of s)

-- the value stands at the cell's name, and is of its kind
abbrev pub HasCell : Data → Cell → Type 0
HasCell d c = (get c.column.name d ≡ Some c.value) × IsOf c.column.kind c.value

-- no member has another name than these
abbrev pub HasOnly : Data → List (List ℕ) → Type 0
HasOnly d names = (name : List ℕ) → IsSome (get name d) → Contains names name

-- the value is the step's object: its word is built, and it has exactly the members of its row,
-- with the step's values
pub record Means (d : Data) (s : Step) : Type 0 where
  pub built : Contains rows (row (word_of s) (columns_of s))
  pub word : get word_name d ≡ Some (string (word_of s))
  pub cells : All (HasCell d) (cells_of s)
  pub only : HasOnly d (names_of (columns_of s))
