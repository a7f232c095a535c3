use Rattle.jr_bind.specs.Programs.{units_of}
use Rattle.jr_program_laws.specs.FileParts.{begins}
use Rattle.jr_sound_code.specs.Laws.{last_of}
use Rattle.jr_sound_code.proofs.SoundPrograms.{written, shaped, sound}
use Rattle.jr_sound_code.proofs.WellTypedStand.{well_typed}
use Rattle.jr_sound_code.proofs.laws.sound_programs_are_well_typed.Goals as goal

pub returns : goal.returns
returns c p is P code =
    let members = c.members_are_written.ensures in
    let placed = c.parts_are_placed.ensures.parts in
    let one = c.lookups_are_exact.ensures.one p.rows is.are_rows in
    let found = c.lookups_are_exact.ensures.keys p.rows is.are_rows in
    well_typed begins last_of p.rows is.are_rows one found p.super_at (units_of p) is.rows (written p is members placed) (shaped p is members placed) (sound p is members placed) P code
