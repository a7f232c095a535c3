use Rattle.std.proofs.Common.{◌≡◌}
use Rattle.jr_punit_laws.specs.UnitMachine.{start}
use Rattle.jr_punit.specs.UnitView.{unit_state}
use Rattle.jr_punit.proofs.UnitParses.{read_on, byte_on}
use Rattle.jr_punit.proofs.parsing.read_unit.Given as goal

-- what is read from here on, and the byte where reading stops, are those from the first item on
abbrev pub invariant-loop-i : goal.invariant-loop-i
invariant-loop-i l = record {
  read : read_on l.text l.items (unit_state l.state) l.i ≡ read_on l.text l.items start 0;
  byte : byte_on l.text l.items (unit_state l.state) l.i ≡ byte_on l.text l.items start 0;
}
