-- What can be undone: for each step that changed texts, the files that it changed, with their texts
-- before. The texts of all files before a step are those behind it with these put back.
use Rattle.std.specs.Prelude.{ℕ, ◌<◌, List, [], ◌∷◌, slice_set, All}
use Rattle.jr_sources.specs.Sources.{Source, with_text}
use Rattle.jr_session.specs.declared.changes.Change.{Change}
use Rattle.jr_session.specs.declared.changes.Earlier.{Earlier}

-- texts with these in the place of those of their files, the last first
abbrev pub put_texts : List (List ℕ) → List Change → List (List ℕ)
put_texts texts [] = texts
put_texts texts (c ∷ cs) = slice_set (put_texts texts cs) c.file c.text

-- the same of sources
abbrev pub put_back : List Source → List Change → List Source
put_back sources [] = sources
put_back sources (c ∷ cs) = with_text (put_back sources cs) c.file c.text

-- the texts before steps, the earliest first, where these are the texts behind the last
abbrev pub before : List (List ℕ) → List Earlier → List (List ℕ)
before texts [] = texts
before texts (e ∷ es) = put_texts (before texts es) e.changes.items

-- the texts before each step
abbrev pub history : List (List ℕ) → List Earlier → List (List (List ℕ))
history texts [] = []
history texts (e ∷ es) = before texts (e ∷ es) ∷ history texts es

-- each change is one of a file of which there are so many
abbrev pub AreOfFiles : ℕ → List Change → Type 0
AreOfFiles count changes = All (λ (c : Change). c.file < count) changes

abbrev pub AreChanges : ℕ → List Earlier → Type 0
AreChanges count steps = All (λ (e : Earlier). AreOfFiles count e.changes.items) steps
