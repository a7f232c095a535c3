use Rattle.jr_runs.proofs.TypesKept.{types_are_kept, ends_fit}
use Rattle.jr_sound_code.proofs.Misfitting.{takes_misfit}
use Rattle.jr_sound_code.proofs.laws.sound_runs_fit.Goals as goal

pub returns : goal.returns
returns c p is P code =
    let well = c.sound_programs_are_well_typed.ensures p is P code in
    record { calls = types_are_kept P well; ends = ends_fit P well; cut = λ start answers fuel stops. takes_misfit P start answers fuel stops }
