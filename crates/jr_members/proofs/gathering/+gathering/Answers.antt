use Rattle.std.proofs.Common.{◌∷◌, refl, sym, ap, subst, ◌∙◌}
use Rattle.std.proofs.lemmas.Result.{on_ok_weaker}
use Rattle.jr_ast.specs.declared.members.Class.{out-Class}
use Rattle.jr_ast.specs.MemberTree as syntax
use Rattle.jr_ast.specs.View.{member_of, members_of, class_of, member_kind, member_row}
use Rattle.jr_ast.proofs.Rows.{class_of-out}
use Rattle.jr_ast.proofs.Sizes.{member_size, members_size, class_size, members_add, falls_further, falls_whole_row, falls_item}
use Rattle.jr_table.specs.Errors.{class_part}
use Rattle.jr_members.specs.Fitting.{begins_by, MemberFits, ClassFits, MembersFit}
use Rattle.jr_members.specs.Parts.{placed, member_parts, class_parts, members_parts}
use Rattle.jr_members.proofs.PartLists as lists
use Rattle.jr_members.proofs.gathering.+gathering.Goals as goal

pub class-begin-requires : goal.class-begin-requires
class-begin-requires g t c = (lists.class_fits (begins_by g.A.Mark.span_from) g.A.Mark.fits_at c.args.at.base c.args.class.now c.requires).0

pub class-members-requires : goal.class-members-requires
unfolding member_size members_size class_size
class-members-requires g t c =
    let B = begins_by g.A.Mark.span_from in
    let F = g.A.Mark.fits_at in
    let whole = class_size (class_of c.args.class.now) in
    let fits = (lists.class_fits B F c.args.at.base c.args.class.now c.requires).1 in
    λ κs o. (
      falls_whole_row (λ xs. members_size (members_of xs)) whole (out-Class _ c.args.class.now).members.items c.deref.result.now t c.deref.ensures.value (ap class_size (class_of-out _ c.args.class.now)) c.decreases,
      (
        o,
        subst (λ b. MembersFit B F b (members_of c.deref.result.now)) (sym c.begin.ensures)
            (subst (λ xs. MembersFit B F (B (out-Class _ c.args.class.now).mark c.args.at.base) (members_of xs)) (sym c.deref.ensures.value) fits),
      ),
    )

pub class-returns : goal.class-returns
unfolding member_parts class_parts members_parts
class-returns g t c =
    let B = begins_by g.A.Mark.span_from in
    let start = c.begin.ensures in
    let whole = class_of-out _ c.args.class.now in
    on_ok_weaker c.members.result
    (λ e. lists.put_two _ _ _ _ _ _ c.in_ok-push_head.ensures e
    ((λ i. placed c.args.at.file c.args.at.base (class_part (whole i)) ∷ members_parts B c.args.at.file (start i) (members_of (c.deref.ensures.value i)))
    ∙ sym (ap (λ d. class_parts B c.args.at.file c.args.at.base d) whole))) c.members.ensures

pub members-member-requires : goal.members-member-requires
unfolding MemberFits ClassFits MembersFit
members-member-requires g t c =
    let B = begins_by g.A.Mark.span_from in
    let F = g.A.Mark.fits_at in
    let fits = lists.each_meets (λ xs. MembersFit B F c.args.at.base (members_of xs)) (λ x. MemberFits B F c.args.at.base (member_of x)) (λ x xs h. h)
    c.args.members.now c.loop-part.part-index c.part-item.result c.loop-part-test.true c.part-item.is c.requires in
    λ κs o. (falls_item (λ x. member_size (member_of x)) (λ xs. members_size (members_of xs)) members_add c.args.members.now c.loop-part.part-index c.part-item.result t c.loop-part-test.true c.part-item.is c.decreases, (o, fits))

pub members-loop-part-preserved : goal.members-loop-part-preserved
unfolding member_parts class_parts members_parts
members-loop-part-preserved g t c =
    let B = begins_by g.A.Mark.span_from in
    lists.one_more (λ xs. members_parts B c.args.at.file c.args.at.base (members_of xs)) (λ x. member_parts B c.args.at.file c.args.at.base (member_of x)) (λ x xs. refl)
    _ _ _ c.args.members.now c.loop-part.part-index c.part-item.result
    c.loop-part-test.true c.part-item.is c.in_ok-member.ensures c.loop-part.invariant

pub members-returns : goal.members-returns
unfolding member_parts class_parts members_parts
members-returns g t c =
    let B = begins_by g.A.Mark.span_from in
    lists.none_left (λ xs. members_parts B c.args.at.file c.args.at.base (members_of xs)) (λ x. member_parts B c.args.at.file c.args.at.base (member_of x)) (λ x xs. refl)
    _ _ c.args.members.now c.loop-part.part-index c.loop-part-test.false refl c.loop-part.invariant

pub member-begin-requires : goal.member-begin-requires
unfolding member_kind member_row class_of MemberFits ClassFits MembersFit
member-begin-requires g t c =
    let B = begins_by g.A.Mark.span_from in
    let F = g.A.Mark.fits_at in
    let m = c.args.member.now.mark in
    (subst (λ (d : syntax.Member g.row.A.Denot). MemberFits B F c.args.at.base d) (ap (member_kind m) c.in-Inner.is) c.requires).0

pub member-class-requires : goal.member-class-requires
unfolding member_size members_size class_size member_kind member_row class_of MemberFits ClassFits MembersFit
member-class-requires g t c =
    let B = begins_by g.A.Mark.span_from in
    let F = g.A.Mark.fits_at in
    let whole = member_size (member_of c.args.member.now) in
    let m = c.args.member.now.mark in
    let at = c.in-Inner in
    let fits = (subst (λ (d : syntax.Member g.row.A.Denot). MemberFits B F c.args.at.base d) (ap (member_kind m) at.is) c.requires).1 in
    λ κs o. (
      falls_further _ t (falls_whole_row (λ x. class_size (class_of x)) whole at.inner at.inner t refl (ap (λ d. member_size (member_kind m d)) at.is) c.decreases),
      (o, subst (λ b. ClassFits B F b (class_of at.inner)) (sym c.begin.ensures) fits),
    )
