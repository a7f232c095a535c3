use Rattle.std.proofs.Common.{List, [], ◌++◌, sym, ap, subst, ◌∙◌}
use Rattle.std.proofs.lemmas.Result.{IfOk-weaker}
use Rattle.jr_table.specs.KeyView.{member_key_of}
use Rattle.jr_table.specs.Walks.{part_notes}
use Rattle.jr_expr_types.specs.Trees.{flat}
use Rattle.jr_expr_types.specs.TypedTrees.{part_tree}
use Rattle.jr_members.specs.Fitting.{begins_by}
use Rattle.jr_members.specs.PartView.{part_of}
use Rattle.jr_bind_expr.specs.declared.findings.Note as raw
use Rattle.jr_bind_expr.specs.Logs.{notes_of, Adds}
use Rattle.jr_bind.proofs.Bounding.{is_bound}
use Rattle.jr_bind.proofs.TypedBounds.{typed_part}
use Rattle.jr_bind.proofs.binding.bind_uncounted.Goals as goal

pub returns : goal.returns
returns g c =
    let B = begins_by g.A.Mark.span_from in
    let rows = c.args.table.now in
    let w = c.args.written.now in
    let k = member_key_of w.key in
    let part = part_of w.part in
    let super_at = c.args.super_at in
    let of_none = subst (λ (xs : List raw.Note). Adds (notes_of rows k xs) (part_notes B rows super_at k w.base part) (notes_of rows k c.note_part.new.log.items)) c.new-log.ensures.items c.in_ok-note_part.ensures.notes in
    let adds = subst (λ (xs : List raw.Note). Adds [] (part_notes B rows super_at k w.base part) (notes_of rows k xs)) (sym c.as_slice.ensures.value) of_none in
    let fit = c.keeps_rows.ensures in
    let slots = c.in_ok-note_part.ensures.slots ∙ ap (λ xs. xs ++ flat (part_tree B rows k part)) c.new-types.ensures in
    let typed = typed_part B rows fit (c.lookups_are_exact.ensures.keys rows fit) k c.paths_lead_to_types.ensures c.types_are_at.ensures part c.note_part.new.types slots in
    let are = c.parts_are_noted.ensures.parts B rows c.keeps_rows.ensures (c.lookups_are_exact.ensures.keys rows c.keeps_rows.ensures) super_at k w.base part in
    IfOk-weaker c.bound_of_log.result _ _
    (λ b h. is_bound B rows super_at k w.base part (notes_of rows k c.as_slice.result.now) adds are c.requires.once c.errors_are_told.ensures.errors c.first_byte-start.result c.first_byte-start.ensures c.note_part.new.types typed b h) c.bound_of_log.ensures
