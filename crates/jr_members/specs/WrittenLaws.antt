-- Laws of written members, as statements.
use Rattle.std.specs.Prelude.{◌≡◌, ℕ, List, Some, Contains, slice_get}
use Rattle.jr_ast.specs.MemberTree as syntax
use Rattle.jr_table.specs.Decls.{MemberKey}
use Rattle.jr_table.specs.Rows.{Row}
use Rattle.jr_table.specs.Entries.{number_of}
use Rattle.jr_table.specs.Conditions.{AreRows}
use Rattle.jr_table.specs.DeclaredItems.{declarations_of}
use Rattle.jr_table.specs.ProgramRows.{AreProgramRows}
use Rattle.jr_table.specs.Errors.{Part, InClasses}
use Rattle.jr_members.specs.WrittenMembers.{WrittenMember, decl_of_member, written_members}

module _ {A : Type 0} (begins : A → ℕ → ℕ) (units : List (syntax.Unit A)) where
  -- a class of the file writes the member, whose parent begins there, as this
  pub record IsWritten (file : ℕ) (k : MemberKey) (base : ℕ) (part : Part A) : Type 0 where
    pub unit : syntax.Unit A
    pub stands : slice_get units file ≡ Some unit
    pub writes : InClasses begins (declarations_of begins units) (λ j b p. (b ≡ base) × (p ≡ part))
        (begins unit.mark 0) unit.classes k

  -- the list has exactly the members that are written
  pub record AreWritten (rows : List Row) (members : List (WrittenMember A)) : Type 0 where
    pub each : (w : WrittenMember A) → Contains members w → IsWritten w.file w.key w.base w.part
    pub all : (file : ℕ) (k : MemberKey) (base : ℕ) (part : Part A)
        → IsWritten file k base part
        → (w : WrittenMember A) × Contains members w × (w.file ≡ file) × (w.key ≡ k)
        × (w.base ≡ base) × (w.part ≡ part)
    -- each with the number of its row
    pub row : (w : WrittenMember A) → Contains members w
        → number_of rows (decl_of_member w.key) ≡ Some w.row
    -- no two have one key
    pub one : (v w : WrittenMember A) → Contains members v → Contains members w → v.key ≡ w.key
        → v ≡ w

abbrev pub MembersAreWritten : Type 0 → Type 0
MembersAreWritten A = (begins : A → ℕ → ℕ) (units : List (syntax.Unit A)) (rows : List Row)
    → AreRows rows → AreProgramRows (declarations_of begins units) rows
    → AreWritten begins units rows (written_members begins rows units)
