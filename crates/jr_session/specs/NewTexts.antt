-- What edits make of all files at once.
use Rattle.std.specs.Prelude.{ℕ, List, [], ◌∷◌, ◌++◌, if◌then◌else◌}
use Rattle.std.specs.Str.{bytes_eq}
use Rattle.jr_text.specs.Edits.{Entry}
use Rattle.jr_text.specs.Splices.{splice}
use Rattle.jr_sources.specs.Sources.{Source, texts_of}
use Rattle.jr_session.specs.States.{State}

-- each source spliced by its edits; one for which there are none stays
abbrev pub with_edits : List Source → List (List Entry) → List Source
with_edits [] edits = []
with_edits (s ∷ ss) [] = s ∷ ss
with_edits (s ∷ ss) (e ∷ es) =
    record { name = s.name; text = splice s.text e } ∷ with_edits ss es

-- the names of the files whose text is another one, in their order
abbrev pub differing : (old new : List Source) → List (List ℕ)
differing [] ts = []
differing (s ∷ ss) [] = []
differing (s ∷ ss) (t ∷ ts) =
    if bytes_eq s.text t.text then differing ss ts else s.name ∷ differing ss ts

-- with these files: the texts before can be undone, and nothing can be redone
abbrev pub with_files : State → List Source → State
with_files s files = record {
  files = files;
  undo = s.undo ++ texts_of s.files ∷ [];
  redo = [];
  shown = s.shown;
}
