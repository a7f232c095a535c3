use Rattle.std.proofs.Common.{◌≡◌, Some, sym, ap, subst, ◌∙◌}
use Rattle.std.specs.Prelude.{option_map}
use Rattle.jr_table.specs.Decls.{MemberKey, method, method_decl}
use Rattle.jr_table.specs.KeyView.{member_key_of, method_key_of}
use Rattle.jr_table.specs.Entries.{number_of, kind_of}
use Rattle.jr_table.specs.Notes.{returned_type}
use Rattle.jr_bind_expr.specs.Places.{member_of, decl_of}
use Rattle.jr_bind_parts.specs.StmtArms.{value_kind}
use Rattle.jr_bind_parts.proofs.StmtArming.{value_is, row_kind}
use Rattle.jr_bind_parts.proofs.stmt_notes.due.Goals as goal

pub returns-in-Method : goal.returns-in-Method
returns-in-Method c =
    let rows = c.args.table.now in
    let p = c.args.place.now in
    let key = method_key_of c.in-Method.field-0 in
    let is : member_of p ≡ method key = ap member_key_of c.in-Method.is in
    let here = subst (λ (m : MemberKey). number_of rows (decl_of m) ≡ Some p.row) is c.requires.row in
    c.value_kind.ensures ∙ ap value_kind (c.kind_at.ensures ∙ row_kind rows (method_decl key) p.row here) ∙ value_is rows _
    ∙ sym (ap (λ (m : MemberKey). option_map (kind_of rows) (returned_type rows m)) is)
