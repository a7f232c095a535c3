use Rattle.std.proofs.Common.{sym, ap, ◌∙◌}
use Rattle.std.specs.Prelude.{◌&&◌}
use Rattle.jr_ast.specs.View.{stmts_of, member_kind, class_of, member_row}
use Rattle.jr_mentions.specs.ApartView.{names_in}
use Rattle.jr_mentions.specs.AvoidTests.{avoids_stmts, avoids_member}
use Rattle.jr_mentions.proofs.avoiding.spares_member.Goals as goal

pub returns-in-Method : goal.returns-in-Method
unfolding member_kind class_of member_row
returns-in-Method g c =
    let names = names_in c.args.apart.now in
    let m = c.args.of.now.mark in
    c.spares_stmts.ensures ∙ ap (λ xs. avoids_stmts names (stmts_of xs)) c.deref.ensures.value ∙ sym (ap (λ k. avoids_member names (member_kind m k)) c.in-Method.is)

pub returns-in-Ctor : goal.returns-in-Ctor
unfolding member_kind class_of member_row
returns-in-Ctor g c =
    let names = names_in c.args.apart.now in
    let m = c.args.of.now.mark in
    (λ i. c.spares_args.ensures i && (c.spares_stmts-in-Ctor.ensures ∙ ap (λ xs. avoids_stmts names (stmts_of xs)) c.deref-in-Ctor.ensures.value) i)
    ∙ sym (ap (λ k. avoids_member names (member_kind m k)) c.in-Ctor.is)
