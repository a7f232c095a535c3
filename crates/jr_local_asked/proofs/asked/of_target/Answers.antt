use Rattle.std.proofs.Common.{ap}
use Rattle.std.proofs.lemmas.Result.{IfOk-weaker}
use Rattle.jr_table.specs.KeyView.{decl_of, local_key_of}
use Rattle.jr_local_asked.proofs.Targets.{of_local_decl}
use Rattle.jr_local_asked.proofs.asked.of_target.Goals as goal

pub returns-in-Local : goal.returns-in-Local
returns-in-Local g c =
    let p = g.V.View.program c.args.view.now in
    IfOk-weaker c.of_local.result _ _ (λ o h. of_local_decl p c.args.file (decl_of c.args.decl) (local_key_of c.in-Local.key) (ap decl_of c.in-Local.is) o h) c.of_local.ensures
