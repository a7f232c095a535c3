use Rattle.std.proofs.Common.{map}
use Rattle.jr_ast.specs.View.{unit_of}
use Rattle.jr_build_rows.specs.Heads.{UnitsHeads}
use Rattle.jr_reading_tests.proofs.building.units_in.Given as goal

abbrev pub invariant-loop-text : goal.invariant-loop-text
invariant-loop-text g l = UnitsHeads (map unit_of l.units.items)
