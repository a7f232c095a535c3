use Rattle.jr_table.specs.KeyView.{local_key_of}
use Rattle.jr_local_asked.proofs.Targets.{of_key}
use Rattle.jr_local_asked.proofs.asked.of_local.Goals as goal

pub returns-in-Ok : goal.returns-in-Ok
returns-in-Ok g c =
    let p = g.V.View.program c.args.view.now in
    of_key p c.args.file (local_key_of c.args.key) c.in-Ok.found c.in-Ok.ensures c.with_key.result c.with_key.ensures
