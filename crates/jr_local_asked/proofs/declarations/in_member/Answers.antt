use Rattle.std.proofs.Common.{sym, ap, ◌∙◌}
use Rattle.std.specs.Prelude.{option_map}
use Rattle.std.proofs.lemmas.Result.{IfOk-weaker}
use Rattle.jr_table.specs.KeyView.{local_key_of}
use Rattle.jr_local_asked.specs.DeclaredView.{declared_of}
use Rattle.jr_local_asked.proofs.Declares.{in_written_member, in_no_member}
use Rattle.jr_local_asked.proofs.declarations.in_member.Goals as goal

pub returns-in-None : goal.returns-in-None
returns-in-None g c =
    let p = g.V.View.program c.args.view.now in
    let none = sym c.member_at.ensures ∙ ap (option_map (λ w. w.now)) c.in-None.is in
    in_no_member p c.keeps_program.ensures c.args.file (local_key_of c.args.key.now) c.args.number c.args.members.now c.requires.members none

pub returns-in-Some : goal.returns-in-Some
returns-in-Some g c =
    let p = g.V.View.program c.args.view.now in
    let stands = sym c.member_at.ensures ∙ ap (option_map (λ w. w.now)) c.in-Some.is in
    IfOk-weaker c.in_written.result _ _ (λ o h. in_written_member p c.keeps_program.ensures c.args.file (local_key_of c.args.key.now) c.args.number c.args.members.now c.requires.members c.in-Some.written.now stands (option_map declared_of o) h) c.in_written.ensures
