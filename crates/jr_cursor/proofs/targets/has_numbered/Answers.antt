use Rattle.std.proofs.Common.{sym, ap, ◌∙◌}
use Rattle.std.specs.Prelude.{option_map}
use Rattle.std.proofs.lemmas.Result.{IfOk-weaker}
use Rattle.jr_table.specs.KeyView.{decl_of}
use Rattle.jr_cursor.proofs.Numbering.{member_finds}
use Rattle.jr_cursor.proofs.targets.has_numbered.Goals as goal

pub returns-in-Some : goal.returns-in-Some
returns-in-Some g c =
    let p = g.V.View.program c.args.view.now in
    let stands = sym c.member_at.ensures ∙ ap (option_map (λ w. w.now)) c.in-Some.is in
    IfOk-weaker c.has_in_file.result _ _ (λ o h. member_finds p c.args.members.now c.args.file c.args.at c.args.number c.in-Some.written.now stands (option_map decl_of o) h) c.has_in_file.ensures
