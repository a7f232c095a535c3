-- The pure changes that Rust values stand for.
use Rattle.std.specs.Prelude.{◌≡◌, List, ◌++◌, map, string_bytes, Result, OnOk}
use Rattle.jr_rewrite.specs.declared.changes.Change as raw
use Rattle.jr_rewrite.specs.Respellings.{Change}

abbrev pub change_of : raw.Change → Change
change_of c = record { span = c.span; text = string_bytes c.text }

abbrev pub changes_of : List raw.Change → List Change
changes_of cs = map change_of cs

-- where it is Ok, the changes have been put behind all others
abbrev pub Adds : {T E : Type 0} → Result T E → (old new : List raw.Change) → List Change → Type 0
Adds result old new cs = OnOk result (changes_of new ≡ changes_of old ++ cs)
