-- Why a refactoring is refused before its sources are analysed.
use Rattle.std.specs.Prelude.{◌≡◌, ℕ, ◌⊎◌, List}
use Rattle.jr_text.specs.Spans.{CanCut}
use Rattle.jr_lex.specs.Replacing.{IsName}
use Rattle.jr_names.specs.Refusals.{Refusal, bad_place, bad_name}

-- a character begins there, or the text ends
abbrev pub CanStand : (text : List ℕ) → (at : ℕ) → Type 0
CanStand text at = CanCut text (record { from = at; to = at })

-- refusals 2 and 3: the offset is past the end or inside a character, or else the new name is no
-- identifier
abbrev pub IsUnasked : (file text : List ℕ) → (at : ℕ) → (new : List ℕ) → Refusal → Type 0
IsUnasked file text at new r = ((CanStand text at → ⊥) × (r ≡ bad_place file at))
    ⊎ (CanStand text at × (IsName new → ⊥) × (r ≡ bad_name new))
