-- What a table's making answers.
use Rattle.std.specs.Prelude.{◌≡◌, ℕ, ◌<◌, List, Option, Some, None}
use Rattle.jr_table.specs.declared.kinds.DeclKind.{DeclKind}
use Rattle.jr_table.specs.DeclaredItems.{DeclaredItem}
use Rattle.jr_table.specs.Faults.{Place, PackageLine, HasFault, IsFirstFault, rank_of}
use Rattle.jr_build.specs.declared.faults.BuildFault.{BuildFault}
use Rattle.jr_build.specs.declared.faults.BuildFault.TheVariants as fault

module _ (packages : List (Option PackageLine)) (declarations : List DeclaredItem) where
  -- the fault is the first of the program; want of memory says nothing of it
  abbrev pub IsFoundFault : BuildFault → Type 0
  IsFoundFault (fault.At file at kind) =
      IsFirstFault packages declarations kind (record { file = file; at = at })
  IsFoundFault fault.Memory = Unit {0}

  -- there is no fault of a kind before this one
  abbrev pub IsCleanBelow : (rank : ℕ) → Type 0
  IsCleanBelow rank = (k : DeclKind) (p : Place) → rank_of packages declarations k < rank
      → HasFault packages declarations k p → ⊥
