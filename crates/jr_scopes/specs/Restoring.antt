-- A place, if there is one, is put under a key again.
use Rattle.std.specs.Prelude.{◌≡◌, ℕ, List, Option, Some, None, Bool, if◌then◌else◌}
use Rattle.std.specs.Str.{bytes_eq}
use Rattle.jr_index.specs.declared.names.Names.{Names}
use Rattle.jr_index.specs.Names.{named}
use Rattle.jr_scopes.specs.declared.indexing.PlaceIndex.{PlaceIndex}
use Rattle.jr_scopes.specs.declared.numbers.Numbers.{Numbers}
use Rattle.jr_scopes.specs.declared.restoring.Known.{Known}
use Rattle.jr_scopes.specs.Numbers.{placed}
use Rattle.jr_scopes.specs.Tracked.{name_in, number_in, same_number}

abbrev pub restored : {K : Type 0} → (same : K → K → Bool) → (found : K → Option ℕ) → K
    → Option ℕ → K → Option ℕ
restored same found k None q = found q
restored same found k (Some place) q = if same k q then Some place else found q

abbrev pub RestoresName : Names → List ℕ → Option ℕ → Names → Type 0
RestoresName old name place new =
    (q : List ℕ) → named new q ≡ restored bytes_eq (named old) name place q

abbrev pub RestoresNumber : Numbers → ℕ → Option ℕ → Numbers → Type 0
RestoresNumber old number place new =
    (q : ℕ) → placed new q ≡ restored same_number (placed old) number place q

-- new has what old has, but for the places of the last ones before this one
pub record Restores (old : PlaceIndex) (k : Known) (new : PlaceIndex) : Type 0 where
  pub names : RestoresName old.names (name_in k) k.named new.names
  pub numbers : RestoresNumber old.numbers (number_in k) k.numbered new.numbers
