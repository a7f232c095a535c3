use Rattle.std.proofs.Common.{sym, ap, ◌∙◌}
use Rattle.std.specs.Prelude.{option_map}
use Rattle.std.proofs.lemmas.Result.{IfOk-weaker}
use Rattle.jr_local_finds.specs.ValueView.{chosen_of}
use Rattle.jr_local_finds.proofs.Members.{in_written_member, in_no_member}
use Rattle.jr_local_finds.proofs.selecting.in_member.Goals as goal

pub returns-in-None : goal.returns-in-None
returns-in-None g c =
    let p = g.V.View.program c.args.view.now in
    let none = sym c.member_at.ensures ∙ ap (option_map (λ w. w.now)) c.in-None.is in
    in_no_member p c.args.file c.args.span.now c.args.number c.bodies_are_nested.ensures c.keeps_program.ensures c.args.members.now c.requires.members none

pub returns-in-Some : goal.returns-in-Some
returns-in-Some g c =
    let p = g.V.View.program c.args.view.now in
    let stands = sym c.member_at.ensures ∙ ap (option_map (λ w. w.now)) c.in-Some.is in
    IfOk-weaker c.in_written.result _ _ (λ o h. in_written_member p c.args.file c.args.span.now c.args.number c.bodies_are_nested.ensures c.keeps_program.ensures c.args.members.now c.requires.members c.in-Some.written.now stands (option_map chosen_of o) h) c.in_written.ensures
