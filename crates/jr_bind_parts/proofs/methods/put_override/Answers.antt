use Rattle.std.proofs.Common.{◌≡◌, ◌++◌, Some, sym, ap, subst, ◌∙◌}
use Rattle.std.proofs.lemmas.Result.{IfOk-weaker}
use Rattle.jr_table.specs.Decls.{MemberKey, method}
use Rattle.jr_table.specs.KeyView.{member_key_of, method_key_of}
use Rattle.jr_table.specs.Entries.{number_of}
use Rattle.jr_table.specs.Notes.{breaks, when}
use Rattle.jr_table.specs.HeadNotes.{override_notes}
use Rattle.jr_table.specs.declared.rules.Rule.TheVariants as rule
use Rattle.jr_bind_expr.specs.Places.{member_of, decl_of}
use Rattle.jr_bind_expr.specs.Logs.{notes_of}
use Rattle.jr_bind_parts.proofs.methods.put_override.Goals as goal

pub returns-in-Method : goal.returns-in-Method
returns-in-Method c =
    let rows = c.args.table.now in
    let k = member_of c.args.place.now in
    let is : k ≡ method (method_key_of c.in-Method.field-0) = ap member_key_of c.in-Method.is in
    let here = subst (λ (m : MemberKey). number_of rows (decl_of m) ≡ Some c.args.place.now.row) is c.requires.row in
    IfOk-weaker c.put_when.result _ _ (λ u h. h
    ∙ ap (λ b. notes_of rows k c.args.log.now.items ++ when b (breaks c.args.at rule.Override)) (c.overrides_badly-is_broken.ensures (method_key_of c.in-Method.field-0) here)
    ∙ ap (λ (m : MemberKey). notes_of rows k c.args.log.now.items ++ override_notes rows m c.args.at) (sym is)) c.put_when.ensures
