-- The laws on what static fields begin with, as statements.
use Rattle.std.specs.Prelude.{◌≡◌, ℕ, List, []}
use Rattle.jr_ast.specs.MemberTree as syntax
use Rattle.jr_runs.specs.FirstValues.{First}
use Rattle.jr_runs.specs.Rows as core
use Rattle.jr_table.specs.Keys.{FieldKey}
use Rattle.jr_table.specs.Rows.{Row}
use Rattle.jr_table.specs.Conditions.{AreRows}
use Rattle.jr_table.specs.DeclaredItems.{declarations_of}
use Rattle.jr_table.specs.ProgramRows.{AreProgramRows}
use Rattle.jr_table.specs.Faults.{IsClean}
use Rattle.jr_code.specs.RunKeys.{RunKeys}
use Rattle.jr_code.specs.CodedFields.{AreFirstValues}

-- the static fields of a program without faults of declarations begin with something
abbrev pub FirstValuesStand : Type 0 → Type 0
FirstValuesStand A = (begins : A → ℕ → ℕ) (units : List (syntax.Unit A)) (rows : List Row)
    → AreRows rows → AreProgramRows (declarations_of begins units) rows
    → IsClean [] (declarations_of begins units) → (R : core.Rows RunKeys)
    → (first : FieldKey → First RunKeys) × AreFirstValues begins rows units R first

-- and each with one thing
abbrev pub FirstValuesAreOne : Type 0 → Type 0
FirstValuesAreOne A = (begins : A → ℕ → ℕ) (units : List (syntax.Unit A)) (rows : List Row)
    → AreRows rows → AreProgramRows (declarations_of begins units) rows → (R : core.Rows RunKeys)
    → (first other : FieldKey → First RunKeys) → AreFirstValues begins rows units R first
    → AreFirstValues begins rows units R other → (k : FieldKey) → first k ≡ other k
