-- The resolved program that sources are.
use Rattle.std.specs.Prelude.{◌≡◌, ℕ, List}
use Rattle.jr_ast.specs.MemberTree as syntax
use Rattle.jr_runs.specs.Core as core
use Rattle.jr_runs.specs.MemberTranslation.{no_code}
use Rattle.jr_table.specs.Keys.{MethodKey, CtorKey}
use Rattle.jr_table.specs.Decls.{MemberKey, method_decl, constructor_decl}
use Rattle.jr_table.specs.Rows.{Row}
use Rattle.jr_table.specs.DeclaredItems.{declarations_of}
use Rattle.jr_code.specs.RunKeys.{RunKeys}
use Rattle.jr_code.specs.RunRows.{HasRow, AreRunRows}
use Rattle.jr_code.specs.CodedMembers.{UnitsCoded, HasPrelude}

-- what isn't declared does nothing
pub record HasNoMore (rows : List Row) (P : core.Program RunKeys) : Type 0 where
  pub method : (k : MethodKey) → (HasRow rows (method_decl k) → ⊥)
      → P.method k ≡ core.written no_code
  pub constructor : (k : CtorKey) → (HasRow rows (constructor_decl k) → ⊥)
      → P.constructor k ≡ no_code

-- P is what these units are by these rows: what each declares, and the code of its members. What
-- static fields begin with stands apart (`CodedFields`). `begins m base`, `ends m base`: the places
-- of the first and the last byte of a node with the mark m whose parent begins at base. `super_at
-- k`: that of the word `super`, if the constructor writes `super(..)`.
pub record IsCodeOf {A : Type 0} (begins ends : A → ℕ → ℕ) (rows : List Row)
    (super_at : MemberKey → ℕ) (units : List (syntax.Unit A)) (P : core.Program RunKeys) : Type 0
  where
    pub declarations : AreRunRows rows P.rows
    pub members : UnitsCoded begins ends rows super_at (declarations_of begins units) P units
    pub prelude : HasPrelude P
    pub others : HasNoMore rows P
