use Rattle.std.proofs.Common.{ℕ, List, sym, ap, subst}
use Rattle.std.proofs.lemmas.Result.{IfOk-weaker}
use Rattle.jr_ast.specs.View.{member_of}
use Rattle.jr_table.specs.KeyView.{member_key_of}
use Rattle.jr_table.specs.Errors.{Part}
use Rattle.jr_table.specs.Notes.{Note}
use Rattle.jr_table.specs.Walks.{part_notes}
use Rattle.jr_bind_expr.specs.Logs.{notes_of, Adds}
use Rattle.jr_members.specs.PartView.{part_of}
use Rattle.jr_bind_parts.proofs.Parting.{part_member}
use Rattle.jr_bind_parts.proofs.part_notes.note_part.Goals as goal

pub returns-in-Member-clause-notes : goal.returns-in-Member-clause-notes
returns-in-Member-clause-notes g c =
    let B = λ (m : g.row.A.Denot) (b : ℕ). (g.A.Mark.span_from m b).from in
    let rows = c.args.table.now in
    let k = member_key_of c.args.key.now in
    let old = notes_of rows k c.args.log.now.items in
    let new = notes_of rows k c.note_member.new.log.items in
    IfOk-weaker c.note_member.result _ _ (λ u h.
    subst (λ (x : Part g.row.A.Denot). Adds old (part_notes B rows c.args.super_at k c.args.base x) new) (sym (ap part_of c.in-Member.is))
    (subst (λ (ns : List Note). Adds old ns new) (sym (part_member B rows c.args.super_at k c.args.base (member_of c.in-Member.member.now))) h)) c.note_member.ensures.notes
