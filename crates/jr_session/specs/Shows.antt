-- What a show gives, by what is shown.
use Rattle.std.specs.Prelude.{◌≡◌, ◌+◌, ◌≤◌, ℕ, List}
use Rattle.jr_table.specs.KeyView.{member_key_of}
use Rattle.jr_names.specs.declared.steps.What.{What}
use Rattle.jr_names.specs.declared.steps.What.TheVariants as what
use Rattle.jr_lines.specs.Lines.{bytes_of}
use Rattle.jr_dependence_lines.specs.declared.file_lines.Shown.{Shown}
use Rattle.jr_dependence_lines.specs.declared.file_lines.Shown.TheVariants as shows
use Rattle.jr_sources.specs.Sources.{Source}
use Rattle.jr_session.specs.Dependences.{AreDependenceTexts, IsLargeMember}
use Rattle.jr_session.specs.Lines.{AreLineTexts}

-- the texts of the lines of the file of this number
abbrev pub AreShownTexts : List Source → (file : ℕ) → What → (texts : List (List ℕ)) → Type 0
AreShownTexts sources file what.Bindings texts = AreLineTexts sources file texts
AreShownTexts sources file what.Dependences texts = AreDependenceTexts sources file texts

-- how many bytes a session shows at most
abbrev pub shown_limit : ℕ
shown_limit = 8388608

-- ---- for private clauses

-- what comes of a show of dependences, with so many bytes shown before it
abbrev pub IsDependenceShow : List Source → (file before : ℕ) → Shown → Type 0
IsDependenceShow sources file before (shows.TooManySites member count) =
    IsLargeMember sources file (member_key_of member) count
IsDependenceShow sources file before (shows.Lines texts len) =
    (lines : List (List ℕ)) × AreDependenceTexts sources file lines
    × (len ≡ before + bytes_of lines) × (len ≤ shown_limit → texts.items ≡ lines)
