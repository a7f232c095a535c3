-- Laws of rows that are the same but for some names, as statements.
use Rattle.std.specs.Prelude.{◌↔◌, ℕ, List}
use Rattle.jr_ast.specs.MemberTree as syntax
use Rattle.jr_table.specs.Keys.{Ty}
use Rattle.jr_table.specs.Decls.{MemberKey, Decl}
use Rattle.jr_table.specs.Rows.{Row}
use Rattle.jr_table.specs.Conditions.{AreRows}
use Rattle.jr_table.specs.Errors.{Part, Breaks, Binds}
use Rattle.jr_table.specs.TypesAt.{TypeAt}
use Rattle.jr_table.specs.declared.rules.Rule.{Rule}
use Rattle.jr_mentions.specs.Apart.{AreApart, IsCleanMember}
use Rattle.jr_mentions.specs.Alike.{LookAlike}
use Rattle.jr_mentions.specs.Avoids.{AvoidsPart, AvoidsMember}

-- lookups of other names answer the same
abbrev pub ApartLookAlike : Type 0
ApartLookAlike = (names : List (List ℕ)) (rows after : List Row) → AreRows rows → AreRows after
    → AreApart names rows after → LookAlike names rows after

-- a part of a program breaks the same rules and is bound to the same declarations
pub record PartLasts {A : Type 0} (begins : A → ℕ → ℕ) (rows after : List Row) (super_at : ℕ)
    (k : MemberKey) (base : ℕ) (part : Part A) : Type 0 where
  pub breaks : (at : ℕ) (r : Rule) → Breaks begins rows super_at k base part at r
      ↔ Breaks begins after super_at k base part at r
  pub binds : (at : ℕ) (d : Decl) → Binds begins rows super_at k base part at d
      ↔ Binds begins after super_at k base part at d

abbrev pub PartsLast : Type 0 → Type 0
PartsLast A = (begins : A → ℕ → ℕ) (names : List (List ℕ)) (rows after : List Row) → AreRows rows
    → AreRows after → LookAlike names rows after → (super_at : ℕ) (k : MemberKey) (base : ℕ)
    (part : Part A) → IsCleanMember names k → AvoidsPart names part
    → PartLasts begins rows after super_at k base part

-- and its expressions have the same types
abbrev pub TypesLast : Type 0 → Type 0
TypesLast A = (begins : A → ℕ → ℕ) (names : List (List ℕ)) (rows after : List Row) → AreRows rows
    → AreRows after → LookAlike names rows after → (k : MemberKey) (x : syntax.Member A)
    → AvoidsMember names x → (path : List ℕ) (t : Ty)
    → TypeAt begins rows k x path t ↔ TypeAt begins after k x path t
