-- Changes as entries of a list of edits.
use Rattle.std.specs.Prelude.{ℕ, suc, ◌≤◌, List, [], ◌∷◌}
use Rattle.jr_text.specs.Edits.{Entry}
use Rattle.jr_rewrite.specs.Respellings.{Change}

-- the entries of changes that are pushed one after the other, the first as the n-th
abbrev pub entries_from : (n : ℕ) → List Change → List Entry
entries_from n [] = []
entries_from n (c ∷ cs) =
    record { span = c.span; text = c.text; order = n } ∷ entries_from (suc n) cs

abbrev pub entries_of : List Change → List Entry
entries_of cs = entries_from 0 cs

-- the first begins at the place or behind it, and each other where the one in front of it ends, or
-- behind that
abbrev pub AreInOrder : (at : ℕ) → List Change → Type 0
AreInOrder at [] = Unit {0}
AreInOrder at (c ∷ cs) =
    (at ≤ c.span.from) × (c.span.from ≤ c.span.to) × AreInOrder c.span.to cs
