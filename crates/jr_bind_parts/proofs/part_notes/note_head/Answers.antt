use Rattle.std.proofs.Common.{◌≡◌, ℕ, Some, sym, ap, subst}
use Rattle.std.proofs.lemmas.Result.{IfOk-weaker}
use Rattle.jr_ast.specs.View.{class_of}
use Rattle.jr_table.specs.TypeView.{class_key_of}
use Rattle.jr_table.specs.KeyView.{member_key_of}
use Rattle.jr_table.specs.Decls.{MemberKey, head}
use Rattle.jr_table.specs.Entries.{number_of}
use Rattle.jr_table.specs.Errors.{class_part}
use Rattle.jr_table.specs.Walks.{part_notes}
use Rattle.jr_bind_expr.specs.Places.{decl_of}
use Rattle.jr_bind_expr.specs.Logs.{notes_of, Adds}
use Rattle.jr_bind_expr.proofs.Adding.{adds_exact}
use Rattle.jr_bind_parts.proofs.part_notes.note_head.Goals as goal

pub returns-in-Head : goal.returns-in-Head
returns-in-Head g c =
    let B = λ (m : g.row.A.Denot) (b : ℕ). (g.A.Mark.span_from m b).from in
    let rows = c.args.table.now in
    let k = member_key_of c.args.key.now in
    let j = class_key_of c.in-Head.field-0 in
    let is : k ≡ head j = ap member_key_of c.in-Head.is in
    let row = subst (λ (m : MemberKey). number_of rows (decl_of m) ≡ Some c.args.row) is c.requires.row in
    let old = notes_of rows k c.args.log.now.items in
    let new = notes_of rows k c.put_head.new.log.items in
    IfOk-weaker c.put_head.result _ _ (λ u h.
    subst (λ (m : MemberKey). Adds old (part_notes B rows c.args.super_at m c.args.base (class_part (class_of c.args.of.now))) new) (sym is)
    (adds_exact old _ new (h k j row))) c.put_head.ensures
