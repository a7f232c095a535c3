use Rattle.jr_table.specs.NotingLaws.{PartsAreNoted}
use Rattle.jr_table.proofs.MemberNotes.{part_breaks, part_binds}
use Rattle.jr_table.proofs.noting_laws.parts_are_noted.Goals as goal

noted : (A : Type 0) → PartsAreNoted A
noted A begins rows fit found super_at k base part = record {
  rules = λ at r. part_breaks begins rows fit found super_at k base part at r;
  bindings = λ at d. part_binds begins rows fit found super_at k base part at d;
}

pub returns : goal.returns
returns g c = record { parts = noted _ }
