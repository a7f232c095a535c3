use Rattle.jr_bind.specs.Programs.{units_of}
use Rattle.jr_program_laws.specs.FileParts.{begins}
use Rattle.jr_sound_code.specs.Laws.{last_of}
use Rattle.jr_sound_code.proofs.SoundPrograms.{written, shaped, sound}
use Rattle.jr_sound_code.proofs.ProgramStands.{resolved, resolved_is}
use Rattle.jr_sound_code.proofs.OneProgram.{programs_one}
use Rattle.jr_sound_code.proofs.laws.programs_have_code.Goals as goal

pub returns-clause-code : goal.returns-clause-code
returns-clause-code c p is =
    let members = c.members_are_written.ensures in
    let placed = c.parts_are_placed.ensures.parts in
    let found = c.lookups_are_exact.ensures.keys p.rows is.are_rows in (
      resolved begins last_of p.rows is.are_rows found p.super_at (units_of p) is.rows (written p is members placed) (shaped p is members placed) (sound p is members placed),
      resolved_is begins last_of p.rows is.are_rows found p.super_at (units_of p) is.rows (written p is members placed) (shaped p is members placed) (sound p is members placed),
    )

pub returns-clause-one : goal.returns-clause-one
returns-clause-one c p is P Q code other =
    programs_one begins last_of p.rows p.super_at (units_of p) is.rows (c.code_is_one.ensures begins last_of p.rows p.super_at is.are_rows) P Q code other
