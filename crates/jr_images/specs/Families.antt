-- The declarations that are renamed with one: a method's family, and else the declaration alone.
use Rattle.std.specs.Prelude.{◌≡◌, List, [], ◌∷◌, ◌⊎◌, ◌↔◌}
use Rattle.jr_table.specs.Keys.{MethodKey}
use Rattle.jr_table.specs.Decls.{
  Decl,
  class_decl,
  field_decl,
  method_decl,
  constructor_decl,
  local_decl,
}
use Rattle.jr_table.specs.Rows.{Row}
use Rattle.jr_table.specs.Keyed.{Overrides}

-- Methods that are connected by overriding: up, down, and sideways by a common one above or below
-- (JLS 8.4.8.1). What is private or static overrides nothing, and is alone.
pub data InFamily (rows : List Row) : MethodKey → MethodKey → Type 0 where
  itself : {m : MethodKey} → InFamily rows m m
  above : {m n k : MethodKey} → Overrides rows m n → InFamily rows n k → InFamily rows m k
  below : {m n k : MethodKey} → Overrides rows n m → InFamily rows n k → InFamily rows m k

-- e is renamed with d
abbrev pub IsRenamedWith : List Row → (d e : Decl) → Type 0
IsRenamedWith rows (method_decl k) e = (m : MethodKey) × (e ≡ method_decl m) × InFamily rows k m
IsRenamedWith rows (class_decl k) e = e ≡ class_decl k
IsRenamedWith rows (field_decl k) e = e ≡ field_decl k
IsRenamedWith rows (constructor_decl k) e = e ≡ constructor_decl k
IsRenamedWith rows (local_decl k) e = e ≡ local_decl k

abbrev pub Among : List Decl → Decl → Type 0
Among [] d = ⊥
Among (x ∷ xs) d = (x ≡ d) ⊎ Among xs d

-- exactly those that are renamed with d
abbrev pub AreRenamed : List Row → (d : Decl) → List Decl → Type 0
AreRenamed rows d decls = (e : Decl) → Among decls e ↔ IsRenamedWith rows d e
