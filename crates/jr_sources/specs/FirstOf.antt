-- The first file that has a fault by itself.
use Rattle.std.specs.Prelude.{◌≡◌, ℕ, ◌<◌, List, length, slice_get, Option, Some, None}
use Rattle.jr_sources.specs.declared.faults.ReadingFault.{ReadingFault}
use Rattle.jr_sources.specs.FaultNames.{fault_name}
use Rattle.jr_sources.specs.Sources.{Source}
use Rattle.jr_sources.specs.FirstFault.{IsFileFault}

-- none of them is one
abbrev pub HaveNone : List (Option ReadingFault) → Type 0
HaveNone faults = (i : ℕ) → i < length faults → slice_get faults i ≡ Some None

-- this is the first that is one, at its number
pub record IsFirstOf (faults : List (Option ReadingFault)) (number : ℕ)
    (f : ReadingFault) : Type 0 where
  pub stands : slice_get faults number ≡ Some (Some f)
  pub before : (i : ℕ) → i < number → slice_get faults i ≡ Some None

-- the file of this number is the first that has a fault by itself, and has this one
pub record IsFileFaultAt (sources : List Source) (number : ℕ) (f : ReadingFault) : Type 0 where
  pub source : Source
  pub stands : slice_get sources number ≡ Some source
  pub fault : IsFileFault sources source.name f.at (fault_name f.kind)
  pub its : fault.number ≡ number
