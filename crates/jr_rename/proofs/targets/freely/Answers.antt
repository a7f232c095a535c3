use Rattle.jr_table.specs.KeyView.{decl_of}
use Rattle.jr_bind.specs.Programs.{units_of}
use Rattle.jr_program_laws.specs.FileParts.{begins}
use Rattle.jr_images.specs.ImageView.{renaming_of}
use Rattle.jr_rename.proofs.Answering.{no_method, reads}
use Rattle.jr_rename.proofs.targets.freely.Goals as goal

pub of_renaming-outcome-requires-clause-fair : goal.of_renaming-outcome-requires-clause-fair
of_renaming-outcome-requires-clause-fair g c =
    let p = g.V.View.program c.args.view.now in
    c.renamings_stay_fair.ensures begins p.rows (units_of p) (decl_of c.args.target.now) (renaming_of c.args.g.now) c.keeps_program.ensures.are_rows c.keeps_program.ensures.rows c.requires.renamed c.requires.own
    (no_method p (decl_of c.args.target.now) c.args.g.now.name c.requires.spares) c.requires.clear
    (c.rows_are_named.ensures.rows begins p.rows (units_of p) (reads p c.keeps_program.ensures) c.keeps_program.ensures.rows).1
    (c.rows_are_named.ensures.names c.args.g.now.name c.requires.name)
