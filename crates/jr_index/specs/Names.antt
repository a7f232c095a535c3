-- Numbers by name.
use Rattle.std.specs.Prelude.{◌≡◌, ℕ, List, Option, Some, if◌then◌else◌}
use Rattle.std.specs.Str.{bytes_eq}
use Rattle.std.specs.HashMap.{get_by}
use Rattle.jr_index.specs.declared.names.Names.{Names}

-- the number under the name, if there is one
abbrev pub named : Names → List ℕ → Option ℕ
named t q = get_by (λ k. bytes_eq q k.now) t.numbers

-- new has this number under the name, and the others as they were
abbrev pub PutsNumber : Names → List ℕ → ℕ → Names → Type 0
PutsNumber old name number new = (q : List ℕ) →
    named new q ≡ (if bytes_eq name q then Some number else named old q)
