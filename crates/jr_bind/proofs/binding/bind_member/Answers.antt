use Rattle.std.proofs.Common.{List, map, sym, ap, subst, ◌∙◌}
use Rattle.std.proofs.lemmas.Option.{MatchOption-at_some}
use Rattle.std.proofs.lemmas.Result.{IfOk-weaker}
use Rattle.jr_ast.specs.View.{unit_of}
use Rattle.jr_table.specs.KeyView.{member_key_of}
use Rattle.jr_members.specs.Fitting.{begins_by}
use Rattle.jr_members.specs.PartView.{written_of}
use Rattle.jr_members.specs.WrittenMembers.{WrittenMember}
use Rattle.jr_members.specs.WrittenLaws.{AreWritten}
use Rattle.jr_bind.specs.Bounds.{BindsOnce, IsBound, FitsWhole}
use Rattle.jr_bind.proofs.MemberFound.{is_some_where, never_none, found_row, found_has, found_is}
use Rattle.jr_bind.proofs.binding.bind_member.Goals as goal

pub unwrap-written-requires : goal.unwrap-written-requires
unwrap-written-requires g c =
    let B = begins_by g.A.Mark.span_from in
    let rows = c.args.table.now in
    let units = map unit_of c.args.units.now in
    let raws = c.as_slice.result.now in
    let are = subst (λ (ms : List (WrittenMember g.row.A.Denot)). AreWritten B units rows ms) (sym (ap (map written_of) c.as_slice.ensures.value ∙ c.in_ok-members.ensures)) (c.members_are_written.ensures B units rows c.keeps_rows.ensures c.requires.rows) in
    is_some_where c.member_of_key.result _ _ c.member_of_key.ensures
    (never_none B units rows raws are (λ k base part. FitsWhole B g.A.Mark.fits_at base part × BindsOnce B rows c.args.super_at k base part) (member_key_of c.args.member.now) c.requires.written)

pub bind_uncounted-requires-clause-row : goal.bind_uncounted-requires-clause-row
bind_uncounted-requires-clause-row g c =
    let B = begins_by g.A.Mark.span_from in
    let rows = c.args.table.now in
    let units = map unit_of c.args.units.now in
    let raws = c.as_slice.result.now in
    let are = subst (λ (ms : List (WrittenMember g.row.A.Denot)). AreWritten B units rows ms) (sym (ap (map written_of) c.as_slice.ensures.value ∙ c.in_ok-members.ensures)) (c.members_are_written.ensures B units rows c.keeps_rows.ensures c.requires.rows) in
    found_row B units rows raws are (λ k base part. FitsWhole B g.A.Mark.fits_at base part × BindsOnce B rows c.args.super_at k base part) (member_key_of c.args.member.now) c.requires.written c.unwrap-written.result.now
    (MatchOption-at_some _ _ c.unwrap-written.result c.unwrap-written.ensures c.member_of_key.ensures)

pub bind_uncounted-requires-clause-fits : goal.bind_uncounted-requires-clause-fits
bind_uncounted-requires-clause-fits g c =
    let B = begins_by g.A.Mark.span_from in
    let rows = c.args.table.now in
    let units = map unit_of c.args.units.now in
    let raws = c.as_slice.result.now in
    let are = subst (λ (ms : List (WrittenMember g.row.A.Denot)). AreWritten B units rows ms) (sym (ap (map written_of) c.as_slice.ensures.value ∙ c.in_ok-members.ensures)) (c.members_are_written.ensures B units rows c.keeps_rows.ensures c.requires.rows) in
    (found_has B units rows raws are (λ k base part. FitsWhole B g.A.Mark.fits_at base part × BindsOnce B rows c.args.super_at k base part) (member_key_of c.args.member.now) c.requires.written c.unwrap-written.result.now
    (MatchOption-at_some _ _ c.unwrap-written.result c.unwrap-written.ensures c.member_of_key.ensures)).0

pub bind_uncounted-requires-clause-once : goal.bind_uncounted-requires-clause-once
bind_uncounted-requires-clause-once g c =
    let B = begins_by g.A.Mark.span_from in
    let rows = c.args.table.now in
    let units = map unit_of c.args.units.now in
    let raws = c.as_slice.result.now in
    let are = subst (λ (ms : List (WrittenMember g.row.A.Denot)). AreWritten B units rows ms) (sym (ap (map written_of) c.as_slice.ensures.value ∙ c.in_ok-members.ensures)) (c.members_are_written.ensures B units rows c.keeps_rows.ensures c.requires.rows) in
    (found_has B units rows raws are (λ k base part. FitsWhole B g.A.Mark.fits_at base part × BindsOnce B rows c.args.super_at k base part) (member_key_of c.args.member.now) c.requires.written c.unwrap-written.result.now
    (MatchOption-at_some _ _ c.unwrap-written.result c.unwrap-written.ensures c.member_of_key.ensures)).1

pub returns-clause-bound : goal.returns-clause-bound
returns-clause-bound g c =
    let B = begins_by g.A.Mark.span_from in
    let rows = c.args.table.now in
    let units = map unit_of c.args.units.now in
    let raws = c.as_slice.result.now in
    let are = subst (λ (ms : List (WrittenMember g.row.A.Denot)). AreWritten B units rows ms) (sym (ap (map written_of) c.as_slice.ensures.value ∙ c.in_ok-members.ensures)) (c.members_are_written.ensures B units rows c.keeps_rows.ensures c.requires.rows) in
    IfOk-weaker c.bind_uncounted.result _ _ (λ b h. found_is B units rows raws are (λ k base part. FitsWhole B g.A.Mark.fits_at base part × BindsOnce B rows c.args.super_at k base part) (member_key_of c.args.member.now) c.requires.written
    (λ k base part. IsBound B rows c.args.super_at k base part b) c.unwrap-written.result.now
    (MatchOption-at_some _ _ c.unwrap-written.result c.unwrap-written.ensures c.member_of_key.ensures) h) c.bind_uncounted.ensures
