use Rattle.std.proofs.Common.{List, map, sym, subst}
use Rattle.std.specs.Prelude.{option_map}
use Rattle.std.proofs.lemmas.Result.{IfOk-weaker}
use Rattle.jr_text.specs.declared.spans.Span.{Span}
use Rattle.jr_table.specs.KeyView.{decl_of, local_key_of}
use Rattle.jr_members.specs.PartView.{written_of}
use Rattle.jr_members.specs.WrittenMembers.{WrittenMember}
use Rattle.jr_members.specs.WrittenLaws.{AreWritten}
use Rattle.jr_bind.specs.Programs.{units_of}
use Rattle.jr_program_laws.specs.FileParts.{begins}
use Rattle.jr_rename.proofs.Listing.{shown_contains, none_has, at_none, at_some}
use Rattle.jr_rename.proofs.Programs.{none_told, told_here}
use Rattle.jr_rename.proofs.locals.local_clash.Goals as goal

pub returns-in-None : goal.returns-in-None
returns-in-None g c =
    let p = g.V.View.program c.args.view.now in
    let k = local_key_of c.args.target.now in
    let ws = map written_of c.args.members.now in
    let are = subst (λ (ms : List (WrittenMember Span)). AreWritten begins (units_of p) p.rows ms) (sym c.requires.members) (c.members_are_written.ensures begins (units_of p) p.rows c.keeps_program.ensures.are_rows c.keeps_program.ensures.rows) in
    none_told begins p.rows (units_of p) ws are k c.args.new.now (none_has c.args.members.now k.member (at_none _ _ c.member_of_key-found.result c.in-None.is c.member_of_key-found.ensures))

pub returns-in-Some : goal.returns-in-Some
returns-in-Some g c =
    let p = g.V.View.program c.args.view.now in
    let k = local_key_of c.args.target.now in
    let ws = map written_of c.args.members.now in
    let are = subst (λ (ms : List (WrittenMember Span)). AreWritten begins (units_of p) p.rows ms) (sym c.requires.members) (c.members_are_written.ensures begins (units_of p) p.rows c.keeps_program.ensures.are_rows c.keeps_program.ensures.rows) in
    let w = c.in-Some.written.now in
    let has = at_some _ _ c.member_of_key-found.result c.in-Some.written c.in-Some.is c.member_of_key-found.ensures in
    IfOk-weaker c.answer_in.result _ _ (λ o h. told_here begins p.rows (units_of p) ws are k c.args.new.now (written_of w) (shown_contains c.args.members.now w has.0) has.1 (option_map decl_of o) h) c.answer_in.ensures
