-- The family of a method by numbers: where it overrides others, all methods below the highest of
-- those (JLS 8.4.8.1).
use Rattle.std.specs.Prelude.{◌≡◌, ℕ, ◌<◌, List, Option, Some, None, Bool, ◌⊎◌}
use Rattle.jr_table.specs.declared.entries.Kind.{Kind}
use Rattle.jr_table.specs.declared.entries.Entry.{Entry}
use Rattle.jr_table.specs.Decls.{Decl}
use Rattle.jr_table.specs.Rows.{Row}
use Rattle.jr_table.specs.Entries.{IsRowOf, entries_of}
use Rattle.jr_table.specs.Chains.{IsSubclassAt}
use Rattle.jr_table.specs.Members.{DeclaresVirtual}
use Rattle.jr_table.specs.Looking.{own_row}

-- the class declares what is looked for
abbrev pub Owns : List Entry → (test : ℕ → Entry → Bool) → ℕ → Type 0
Owns rows test c = (j : ℕ) × (own_row rows test c ≡ Some j)

-- the highest class, from c upwards, that declares what is looked for; c itself, if none does
pub record IsHighest (rows : List Entry) (test : ℕ → Entry → Bool) (c top : ℕ) : Type 0 where
  pub below : IsSubclassAt rows c top
  pub declares : (top ≡ c) ⊎ Owns rows test top
  pub none_above : (d : ℕ) → IsSubclassAt rows top d → Owns rows test d → d ≡ top

-- row j declares such a method, neither private nor static, in a class or a subclass of it
pub record IsBelow (rows : List Entry) (name : List ℕ) (params : List Kind) (top j : ℕ) : Type 0
  where
    pub class : ℕ
    pub declared : DeclaresVirtual rows name params class j
    pub below : IsSubclassAt rows class top

-- one of the first n rows declares such a method, and is the row of e
pub record HasBelow (rows : List Row) (name : List ℕ) (params : List Kind) (top n : ℕ)
    (e : Decl) : Type 0 where
  pub number : ℕ
  pub before : number < n
  pub is_below : IsBelow (entries_of rows) name params top number
  pub row : IsRowOf rows e number

-- exact

-- a class that declares something, or else another
abbrev pub highest_of : Option ℕ → (class lower : ℕ) → ℕ
highest_of None class lower = lower
highest_of (Some j) class lower = class
