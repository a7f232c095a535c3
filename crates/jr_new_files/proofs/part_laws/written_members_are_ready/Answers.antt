use Rattle.jr_new_files.proofs.Standing.{ready}
use Rattle.jr_new_files.proofs.part_laws.written_members_are_ready.Goals as goal

pub returns : goal.returns
returns c = λ p is w has b bound. ready p is c.members_are_written.ensures c.parts_are_placed.ensures.parts c.lookups_are_exact.ensures.one c.declared_types_are_found.ensures w has b bound
