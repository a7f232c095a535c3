-- The state of a session, as contracts see it: its files, the texts that can come back, and how
-- many bytes were shown. The last entry of a list is the one that comes back first. No Rust type
-- stands here.
use Rattle.std.specs.Prelude.{◌≡◌, ℕ, List, [], ◌∷◌, ◌++◌}
use Rattle.jr_sources.specs.Sources.{Source, names_of, texts_of, with_text}

pub record State : Type 0 where
  pub files : List Source
  -- the texts of all files before each change that can be undone
  pub undo : List (List (List ℕ))
  -- and before each undoing that can be redone
  pub redo : List (List (List ℕ))
  pub shown : ℕ

-- as it begins
abbrev pub begun : List Source → State
begun files = record { files = files; undo = []; redo = []; shown = 0 }

-- with another text of the file of this number: the texts before can be undone, and nothing can be
-- redone
abbrev pub changed : State → ℕ → List ℕ → State
changed s number text = record {
  files = with_text s.files number text;
  undo = s.undo ++ texts_of s.files ∷ [];
  redo = [];
  shown = s.shown;
}

-- `t` is `s` with the texts back that were there before the last change
pub record IsUndone (s t : State) : Type 0 where
  pub front : List (List (List ℕ))
  pub texts : List (List ℕ)
  pub had : s.undo ≡ front ++ texts ∷ []
  pub names : names_of t.files ≡ names_of s.files
  pub back : texts_of t.files ≡ texts
  pub undo : t.undo ≡ front
  pub redo : t.redo ≡ s.redo ++ texts_of s.files ∷ []
  pub shown : t.shown ≡ s.shown

-- `t` is `s` with the texts back that were there before the last undoing
pub record IsRedone (s t : State) : Type 0 where
  pub front : List (List (List ℕ))
  pub texts : List (List ℕ)
  pub had : s.redo ≡ front ++ texts ∷ []
  pub names : names_of t.files ≡ names_of s.files
  pub back : texts_of t.files ≡ texts
  pub redo : t.redo ≡ front
  pub undo : t.undo ≡ s.undo ++ texts_of s.files ∷ []
  pub shown : t.shown ≡ s.shown
