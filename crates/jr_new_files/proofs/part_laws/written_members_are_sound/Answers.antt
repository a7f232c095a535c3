use Rattle.jr_new_files.proofs.Standing.{is_sound}
use Rattle.jr_new_files.proofs.part_laws.written_members_are_sound.Goals as goal

pub returns : goal.returns
returns c = λ p is w has. is_sound p is c.members_are_written.ensures c.parts_are_placed.ensures.parts c.lookups_are_exact.ensures.one c.declared_types_are_found.ensures w has
