-- The earliest place in the files of a program.
use Rattle.std.specs.Prelude.{◌≡◌, ℕ, ◌<◌, ◌≤◌, Option, Some, None, ◌⊎◌, option_map}
use Rattle.jr_text.specs.declared.spans.Place as raw
use Rattle.jr_table.specs.Faults.{Place, IsUpTo}

-- the pure place that a place stands for
abbrev pub place_of : raw.Place → Place
place_of p = record { file = p.file; at = p.at }

-- the earliest place that has the property, or none has it
abbrev pub IsEarliest : (Place → Type 0) → Option Place → Type 0
IsEarliest P None = (p : Place) → P p → ⊥
IsEarliest P (Some p) = P p × ((q : Place) → P q → IsUpTo p q)

-- the earlier of two places, where there is one
abbrev pub IsEarlier : Option Place → Option Place → Option Place → Type 0
IsEarlier None b r = r ≡ b
IsEarlier (Some p) None r = r ≡ Some p
IsEarlier (Some p) (Some q) r = ((r ≡ Some p) × IsUpTo p q) ⊎ ((r ≡ Some q) × IsUpTo q p)

-- a byte of a file as a place
abbrev pub within_file : ℕ → Option ℕ → Option Place
within_file file at = option_map (λ a. record { file = file; at = a }) at
