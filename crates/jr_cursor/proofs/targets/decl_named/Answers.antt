use Rattle.std.specs.Prelude.{option_map}
use Rattle.std.proofs.lemmas.Result.{IfOk-weaker}
use Rattle.jr_table.specs.KeyView.{decl_of}
use Rattle.jr_cursor.proofs.Asking.{listed_finds}
use Rattle.jr_cursor.proofs.targets.decl_named.Goals as goal

pub returns : goal.returns
returns g c =
    let p = g.V.View.program c.args.view.now in
    IfOk-weaker c.has_listed.result _ _ (λ o h. listed_finds p c.keeps_program.ensures c.members_are_written.ensures c.parts_are_placed.ensures.parts c.args.members.now c.requires.members c.args.file c.args.at (option_map decl_of o) h) c.has_listed.ensures
