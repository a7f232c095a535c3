-- Which member is told of a value that is no step.
use Rattle.std.specs.Prelude.{◌≡◌, ◌≢◌, ℕ, ◌⊎◌, List, ◌∷◌, ◌++◌, Some, IsSome, All, Contains}
use Rattle.std.specs.Ordering.{nat_cmp}
use Rattle.std.specs.Cmp.Lexicographic.{slice_cmp}
use Rattle.std.specs.declared.cmp.Ordering.TheVariants.{Less}
use Rattle.serde_json.specs.Data.{Data, string}
use Rattle.serde_json.specs.Find.{get}
use Rattle.jr_script.specs.declared.faults.StepFault.{StepFault}
use Rattle.jr_script.specs.declared.faults.StepFault.TheVariants.{Member, Memory}
use Rattle.jr_script.specs.Rows.{Kind, IsOf, Column, column, Row, rows, word_name, names_of}

-- a value of the column's kind stands at its name
abbrev pub HasColumn : Data → Column → Type 0
HasColumn d c = (value : Data) × (get c.name d ≡ Some value) × IsOf c.kind value

abbrev pub HasWord : Data → List ℕ → Type 0
HasWord d word = get word_name d ≡ Some (string word)

-- no object, or one with no word, or one with a word that no row has
abbrev pub IsUnknown : Data → Type 0
IsUnknown d = All (λ r. ¬ HasWord d r.word) rows

-- the name is that of the first column at which no value of its kind stands
pub record IsFirstMissing (d : Data) (columns : List Column) (name : List ℕ) : Type 0 where
  pub front : List Column
  pub back : List Column
  pub kind : Kind
  pub split : columns ≡ front ++ column name kind ∷ back
  pub has : All (HasColumn d) front
  pub lacks : ¬ HasColumn d (column name kind)

-- the least in byte order of the object's names that aren't among these
pub record IsFirstSurplus (d : Data) (names : List (List ℕ)) (name : List ℕ) : Type 0 where
  pub there : IsSome (get name d)
  pub surplus : ¬ Contains names name
  pub least : (other : List ℕ) → IsSome (get other d) → ¬ Contains names other
      → slice_cmp nat_cmp other name ≢ Less

-- a member of the row that is missing or of the wrong kind comes before each surplus one
abbrev pub IsRowFault : Data → Row → List ℕ → Type 0
IsRowFault d r name = IsFirstMissing d r.columns name
    ⊎ (All (HasColumn d) r.columns × IsFirstSurplus d (names_of r.columns) name)

-- the name is told of the value
abbrev pub IsBad : Data → List ℕ → Type 0
IsBad d name = (IsUnknown d × (name ≡ word_name))
    ⊎ ((r : Row) × Contains rows r × HasWord d r.word × IsRowFault d r name)

-- ---- for private clauses

-- the fault tells a member of which the fact holds, or want of memory
abbrev pub Tells : (List ℕ → Type 0) → StepFault → Type 0
Tells P (Member name) = P name
Tells P Memory = Unit {0}

abbrev pub IsMissing : Data → Column → List ℕ → Type 0
IsMissing d c name = (name ≡ c.name) × ¬ HasColumn d c
