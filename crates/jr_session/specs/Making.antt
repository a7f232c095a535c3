-- What a plan's edits make of the sources. Only private clauses cite this.
use Rattle.std.specs.Prelude.{◌≡◌, ℕ, ◌≤◌, ◌⊎◌, List, [], ◌∷◌, ◌++◌, length, take}
use Rattle.std.specs.List.{AllZip}
use Rattle.jr_text.specs.Edits.{Entry, FitsIn}
use Rattle.jr_sources.specs.Sources.{Source, HasName, texts_of, total_of, total_limit}
use Rattle.jr_session.specs.declared.changes.Change.{Change}
use Rattle.jr_session.specs.declared.made.Made.{Made}
use Rattle.jr_session.specs.declared.made.Made.TheVariants as makes
use Rattle.jr_session.specs.Changes.{put_back, AreOfFiles}
use Rattle.jr_session.specs.Lengths.{AreWithin, AreTooLong}
use Rattle.jr_session.specs.NewTexts.{with_edits, differing}
use Rattle.jr_session.specs.Splicing.{HasText}

-- the edits of each file can be made in its text
abbrev pub Fit : List Source → List (List Entry) → Type 0
Fit sources edits = AllZip (λ (s : Source) (e : List Entry). FitsIn s.text e) sources edits

abbrev pub IsMade : List Source → List (List Entry) → Made → Type 0
IsMade sources edits (makes.Changes changes names) =
    (put_back sources changes.items ≡ with_edits sources edits)
    × (names.items ≡ differing sources (with_edits sources edits))
    × AreOfFiles (length sources) changes.items
    × AreWithin (texts_of (with_edits sources edits))
    × (total_of (texts_of (with_edits sources edits)) ≤ total_limit)
IsMade sources edits (makes.TooLong len) = AreTooLong (texts_of (with_edits sources edits)) len

-- the text of this file and its name stand behind the others, or neither, since the file has it
abbrev pub IsPushed : List Source → (number : ℕ) → (text : List ℕ) → (had : List Change)
    → (named : List (List ℕ)) → (have : List Change) → (names : List (List ℕ)) → Type 0
IsPushed sources number text had named have names =
    (HasText sources number text × (have ≡ had) × (names ≡ named))
    ⊎ ((HasText sources number text → ⊥)
    × (have ≡ had ++ record { file = number; text = text } ∷ [])
    × ((name : List ℕ) × HasName sources number name × (names ≡ named ++ name ∷ [])))

-- the changes of the first files, so many, whose new texts have so many bytes together
pub record AreMadeUntil (sources : List Source) (edits : List (List Entry)) (number : ℕ)
    (changes : List Change) (names : List (List ℕ)) (len : ℕ) : Type 0 where
  pub becomes : put_back sources changes ≡ with_edits sources (take number edits)
  pub named : names ≡ differing (take number sources) (take number (with_edits sources edits))
  pub files : AreOfFiles number changes
  pub within : AreWithin (take number (texts_of (with_edits sources edits)))
  pub together : len ≡ total_of (take number (texts_of (with_edits sources edits)))
