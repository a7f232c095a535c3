use Rattle.std.proofs.lemmas.Result.{IfOk-weaker}
use Rattle.jr_table.specs.KeyView.{decl_of}
use Rattle.jr_bind.specs.Programs.{units_of}
use Rattle.jr_program_laws.specs.FileParts.{begins}
use Rattle.jr_rename.specs.Answered.{Tells}
use Rattle.jr_rename.proofs.Listing.{told_so}
use Rattle.jr_rename.proofs.clashes.clash.Goals as goal

pub returns : goal.returns
returns g c =
    let p = g.V.View.program c.args.view.now in
    IfOk-weaker c.of_target.result _ _ (λ o h. told_so (Tells begins p.rows (units_of p) (decl_of c.args.target.now) c.args.new.now) o h) c.of_target.ensures
