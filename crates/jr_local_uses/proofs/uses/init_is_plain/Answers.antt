use Rattle.std.proofs.Common.{sym, ap, ◌∙◌}
use Rattle.jr_text.specs.declared.spans.Span.{Span}
use Rattle.jr_ast.specs.View.{member_of, expr_of}
use Rattle.jr_members.specs.WrittenMembers.{WrittenMember}
use Rattle.jr_local_asked.specs.AskedView.{asked_of}
use Rattle.jr_local_uses.specs.Heads.{Head}
use Rattle.jr_local_uses.proofs.Declaring.{bound_there, bound_is, is_member, written_is, has_member, has_value, tells_reads, head_is, is_headed}
use Rattle.jr_local_uses.proofs.uses.init_is_plain.Goals as goal

pub returns-in-None : goal.returns-in-None
returns-in-None g c = λ file h.
    let p = g.V.View.program c.args.view.now in
    let x = asked_of c.args.asked.now in
    absurd (is_headed p file x.key x.declared h c.declaration_head.result c.declaration_head.ensures c.in-None.is)

pub written_at-written-requires : goal.written_at-written-requires
written_at-written-requires g c =
    let p = g.V.View.program c.args.view.now in
    let x = asked_of c.args.asked.now in
    let t = c.requires.there in
    is_member p t.0 x.key x.declared t.1 c.args.members.now c.requires.members

pub member_in-member-requires : goal.member_in-member-requires
member_in-member-requires g c =
    let p = g.V.View.program c.args.view.now in
    let x = asked_of c.args.asked.now in
    let t = c.requires.there in
    let same = written_is p t.0 x.key x.declared t.1 c.args.members.now c.requires.members c.written_at-written.result.now c.written_at-written.ensures in
    let m = has_member p t.0 x.key x.declared t.1 in
    (m.0, ap (λ (w : WrittenMember Span). w.part) same ∙ m.1)

pub bound-bound-requires : goal.bound-bound-requires
bound-bound-requires g c =
    let p = g.V.View.program c.args.view.now in
    let x = asked_of c.args.asked.now in
    let t = c.requires.there in
    bound_there p t.0 x.key x.declared t.1

pub reads_alone-requires : goal.reads_alone-requires
reads_alone-requires g c =
    let p = g.V.View.program c.args.view.now in
    let x = asked_of c.args.asked.now in
    let t = c.requires.there in
    let same = written_is p t.0 x.key x.declared t.1 c.args.members.now c.requires.members c.written_at-written.result.now c.written_at-written.ensures in
    let part = sym (ap (λ (w : WrittenMember Span). w.part) same) ∙ c.member_in-member.ensures in
    let head = head_is p t.0 x.key x.declared t.1 c.declaration_head.result c.in-Some.head c.declaration_head.ensures c.in-Some.is in
    (p, has_value p t.0 x.key x.declared t.1 c.keeps_program.ensures (member_of c.member_in-member.result.now) part c.bound-bound.result.now (bound_is p t.0 x.key x.declared t.1 c.bound-bound.result.now c.bound-bound.ensures) (expr_of c.in-Some.head.init.now) (ap (λ (z : Head). z.init) head))

pub returns-in_ok-is_plain-in-Some : goal.returns-in_ok-is_plain-in-Some
returns-in_ok-is_plain-in-Some g c = λ file h.
    let p = g.V.View.program c.args.view.now in
    let x = asked_of c.args.asked.now in
    let same = written_is p file x.key x.declared h c.args.members.now c.requires.members c.written_at-written.result.now c.written_at-written.ensures in
    let part = sym (ap (λ (w : WrittenMember Span). w.part) same) ∙ c.member_in-member.ensures in
    let head = head_is p file x.key x.declared h c.declaration_head.result c.in-Some.head c.declaration_head.ensures c.in-Some.is in
    let init = expr_of c.in-Some.head.init.now in
    let init_is = ap (λ (z : Head). z.init) head in
    let bound = c.bound-bound.result.now in
    let bound_so = bound_is p file x.key x.declared h bound c.bound-bound.ensures in
    let m = member_of c.member_in-member.result.now in
    let program = c.keeps_program.ensures in
    let value = has_value p file x.key x.declared h program m part bound bound_so init init_is in
    tells_reads p file x.key x.declared h program m part bound bound_so init init_is c.in_ok-is_plain-in-Some.is_plain (c.in_ok-is_plain-in-Some.ensures p (sym c.table-table.ensures) value)
