-- How a text starts: what the code finds out of an operand before it is printed.
use Rattle.std.specs.Prelude.{◌≡◌, ℕ, Bool, ◌==◌, ◌⊎◌, List, [], ◌∷◌, Option, Some, None}

-- `+` or `-`
abbrev pub IsSign : ℕ → Type 0
IsSign c = (c ≡ 43) ⊎ (c ≡ 45)

-- whether the text starts with the byte; an empty text doesn't tell
abbrev pub starts : ℕ → List ℕ → Option Bool
starts sign [] = None
starts sign (c ∷ cs) = Some (c == sign)
