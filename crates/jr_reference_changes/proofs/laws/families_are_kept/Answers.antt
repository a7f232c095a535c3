use Rattle.jr_rename_laws.proofs.Planning.{is_fair}
use Rattle.jr_reference_changes.proofs.KeptFamilies.{families_kept}
use Rattle.jr_reference_changes.proofs.laws.families_are_kept.Goals as goal

pub returns : goal.returns
returns c p text file at new edits renaming respelled is =
    let fair = is_fair p text file at new edits renaming respelled is c.rows_are_named.ensures.rows c.renamings_stay_fair.ensures c.rows_are_named.ensures.names in
    families_kept is.planned.found.g p.rows is.program.are_rows fair.are is.planned.dispatch
