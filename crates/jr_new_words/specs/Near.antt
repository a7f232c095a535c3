-- A scope in which three names find the locals that they find in another.
use Rattle.std.specs.Prelude.{◌≡◌, ℕ, List, [], ◌∷◌, Option, Some, None}
use Rattle.jr_table.specs.Keys.{ClassKey}
use Rattle.jr_table.specs.Decls.{LocalKey}
use Rattle.jr_table.specs.Scope.{Scope, ScopeLocal, last_named}

-- a name, and those of a class and of the class that it is a member of
pub record IsNear (near s : Scope) (first : List ℕ) (k : ClassKey) : Type 0 where
  pub class : near.class ≡ s.class
  pub is_static : near.is_static ≡ s.is_static
  pub of_first : last_named first near.locals ≡ last_named first s.locals
  pub of_name : last_named k.name near.locals ≡ last_named k.name s.locals
  pub of_outer : (o : List ℕ) → k.outer ≡ Some o
      → last_named o near.locals ≡ last_named o s.locals

-- the local that a name finds, as a list
abbrev pub if_found : (name : List ℕ) → Option LocalKey → List ScopeLocal
if_found name None = []
if_found name (Some k) = record { name = name; key = k } ∷ []

abbrev pub if_maybe_found : Option (List ℕ) → List ScopeLocal → List ScopeLocal
if_maybe_found None ls = []
if_maybe_found (Some name) ls = if_found name (last_named name ls)
