-- The law of what is bound of members, as a statement.
use Rattle.std.specs.Prelude.{ℕ, List}
use Rattle.jr_table.specs.Decls.{MemberKey}
use Rattle.jr_table.specs.Rows.{Row}
use Rattle.jr_table.specs.Conditions.{AreRows}
use Rattle.jr_table.specs.Errors.{Part}
use Rattle.jr_bind.specs.Bounds.{Bound, IsBound}
use Rattle.jr_mentions.specs.Apart.{AreApart, IsCleanMember}
use Rattle.jr_mentions.specs.Avoids.{AvoidsPart}

-- what is right of a member that refers to nothing by the names is right where rows differ in them
abbrev pub BoundsLast : Type 0 → Type 0
BoundsLast A = (begins : A → ℕ → ℕ) (names : List (List ℕ)) (rows after : List Row) → AreRows rows
    → AreRows after → AreApart names rows after → (super_at : ℕ) (k : MemberKey) (base : ℕ)
    (part : Part A) → IsCleanMember names k → AvoidsPart names part → (b : Bound)
    → IsBound begins rows super_at k base part b → IsBound begins after super_at k base part b
