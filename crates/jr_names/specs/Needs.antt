-- The names of what refactorings need.
use Rattle.std.specs.Prelude.{ℕ, List, codes}
use Rattle.jr_names.specs.declared.needs.Need.{Need}
use Rattle.jr_names.specs.declared.needs.Need.TheVariants.{Declaration, Value, Local, OneUse}
use Rattle.jr_names.specs.declared.needs.Need.TheVariants.{Statements, Call, VoidCall}
use Rattle.jr_names.specs.declared.needs.Need.TheVariants.{LocalReceiver, Method, OtherClass}
use Rattle.jr_names.specs.declared.needs.Need.TheVariants.{Parent, NoInitializer}

abbrev pub need_name : Need → List ℕ
need_name Declaration = codes "Declaration"
need_name Value = codes "Value"
need_name Local = codes "Local"
need_name OneUse = codes "OneUse"
need_name Statements = codes "Statements"
need_name Call = codes "Call"
need_name VoidCall = codes "VoidCall"
need_name LocalReceiver = codes "LocalReceiver"
need_name Method = codes "Method"
need_name OtherClass = codes "OtherClass"
need_name Parent = codes "Parent"
need_name NoInitializer = codes "NoInitializer"
