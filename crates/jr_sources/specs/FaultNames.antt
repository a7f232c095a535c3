-- The names of the faults that a text has by itself.
use Rattle.std.specs.Prelude.{ℕ, List, codes}
use Rattle.jr_sources.specs.declared.faults.FaultKind.{FaultKind}
use Rattle.jr_sources.specs.declared.faults.FaultKind.TheVariants as kind

abbrev pub fault_name : FaultKind → List ℕ
fault_name kind.BadByte = codes "BadByte"
fault_name kind.OpenComment = codes "OpenComment"
fault_name kind.OpenString = codes "OpenString"
fault_name kind.Escape = codes "Escape"
fault_name kind.BadNumber = codes "BadNumber"
fault_name kind.Deep = codes "Deep"
fault_name kind.Syntax = codes "Syntax"
