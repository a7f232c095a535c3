use Rattle.std.proofs.Common.{◌≡◌, List, map, sym, ap, subst, ◌∙◌}
use Rattle.std.proofs.lemmas.List.{length-map}
use Rattle.jr_text.specs.declared.spans.Span.{Span}
use Rattle.jr_ast.specs.View.{unit_of}
use Rattle.jr_table.specs.KeyView.{member_key_of}
use Rattle.jr_members.specs.PartView.{part_of, written_of}
use Rattle.jr_members.specs.WrittenMembers.{WrittenMember, written_members}
use Rattle.jr_members.specs.WrittenLaws.{AreWritten}
use Rattle.jr_program_laws.specs.FileParts.{begins}
use Rattle.jr_bind.proofs.MemberFound.{to_mapped}
use Rattle.jr_sources.proofs.PartsFit.{units_gathered}
use Rattle.jr_reading_tests.proofs.OneMember.{of_ok, can_bind}
use Rattle.jr_reading_tests.proofs.methods.tell_first.Goals as goal

pub written_members-requires-clause-fits : goal.written_members-requires-clause-fits
written_members-requires-clause-fits g c = units_gathered _ (map unit_of c.args.units.now)

pub bind_key-bound-requires-clause-written : goal.bind_key-bound-requires-clause-written
bind_key-bound-requires-clause-written g c =
    let units = map unit_of c.args.units.now in
    let rows = c.table_in-table.result in
    let raws = c.as_slice.result.now in
    let all : map written_of c.expect-members.result.items ≡ written_members begins rows units = of_ok c.expect-members.ensures (λ v. map written_of v.items ≡ written_members begins rows units) c.written_members.ensures in
    let are : AreWritten begins units rows (map written_of raws) = subst (λ (ms : List (WrittenMember Span)). AreWritten begins units rows ms) (sym (ap (map written_of) c.as_slice.ensures.value ∙ all)) (c.members_are_written.ensures begins units rows c.keeps_rows.ensures c.table_in-table.ensures) in
    let f = c.requires.file in
    let w = c.in-Some.member.now in
    can_bind units rows f.0 f.1 f.2 (length-map c.args.units.now unit_of ∙ c.requires.one) c.keeps_rows.ensures c.parts_are_placed.ensures.parts w.file (member_key_of w.key) w.base (part_of w.part)
    (are.each (written_of w) (to_mapped written_of raws w c.in-Some.ensures.0)) (c.in-Some.ensures.1 f.1 0)
