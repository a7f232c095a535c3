-- Types that mean nothing, by what is known of a program's classes: exact.
use Rattle.std.specs.Prelude.{◌≡◌, ℕ, List, Option, Some, None, min, ◌↔◌}
use Rattle.jr_table.specs.Keys.{ClassKey, Ty}
use Rattle.jr_table.specs.Resolving.{Means}
use Rattle.jr_table.specs.DeclaredItems.{Written, named, DeclaredParam, Item, DeclaredItem}
use Rattle.jr_table.specs.Faults.{Writes, WritesType}
use Rattle.jr_build_hierarchy.specs.Hierarchies.{Hierarchy, meaning}

-- the meanings of types are known
abbrev pub KnowsMeanings : List DeclaredItem → Hierarchy → Type 0
KnowsMeanings declarations h =
    (k : ClassKey) (w : Written) (t : Ty) → (meaning h k w ≡ Some t) ↔ Means declarations k w t

-- the lesser of two numbers, where there is one
abbrev pub lesser : Option ℕ → Option ℕ → Option ℕ
lesser None b = b
lesser (Some p) None = Some p
lesser (Some p) (Some q) = Some (min p q)

module _ (h : Hierarchy) where
  -- the type stands there, and means nothing in the class
  abbrev pub MeansNothing : ClassKey → Written → ℕ → Type 0
  MeansNothing k w at = (outer : Option (List ℕ)) × (name : List ℕ) × (w ≡ named at outer name)
      × (meaning h k w ≡ None)

  abbrev pub MaybeNothing : ClassKey → Option Written → ℕ → Type 0
  MaybeNothing k t at = (w : Written) × (t ≡ Some w) × MeansNothing k w at

  abbrev pub AnyNothing : ClassKey → List DeclaredParam → ℕ → Type 0
  AnyNothing k ps at = (w : Written) × Writes ps w × MeansNothing k w at

  -- a type that the item writes means nothing, and stands there
  abbrev pub NothingAt : Item → ℕ → Type 0
  NothingAt item at = (k : ClassKey) × (w : Written) × WritesType item k w × MeansNothing k w at
