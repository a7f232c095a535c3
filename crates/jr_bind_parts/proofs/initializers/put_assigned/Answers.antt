use Rattle.std.proofs.Common.{◌≡◌, ℕ, Some, sym, ap, subst, ◌∙◌}
use Rattle.std.proofs.lemmas.Result.{IfOk-weaker}
use Rattle.jr_ast.specs.View.{expr_of}
use Rattle.jr_table.specs.Decls.{MemberKey}
use Rattle.jr_table.specs.TypeView.{class_key_of}
use Rattle.jr_table.specs.KeyView.{member_key_of, field_key_of, method_key_of, ctor_key_of}
use Rattle.jr_table.specs.Entries.{number_of}
use Rattle.jr_table.specs.HeadRules.{plain}
use Rattle.jr_table.specs.Walks.{maybe_notes}
use Rattle.jr_bind_expr.specs.Places.{decl_of}
use Rattle.jr_bind_expr.specs.Logs.{notes_of}
use Rattle.jr_bind_parts.proofs.Parting.{member_here, init_head, init_method, init_ctor, init_field}
use Rattle.jr_bind_parts.proofs.initializers.put_assigned.Goals as goal

pub returns-in-Field-clause-notes : goal.returns-in-Field-clause-notes
returns-in-Field-clause-notes g c = λ k s here.
    let B = λ (m : g.row.A.Denot) (b : ℕ). (g.A.Mark.span_from m b).from in
    let rows = c.args.table.now in
    let p = c.args.place.now in
    let named = ap member_key_of c.in-Field.is in
    let row = subst (λ (m : MemberKey). number_of rows (decl_of m) ≡ Some p.row) named c.requires.knows.row in
    IfOk-weaker c.local_init.result _ _ (λ u h.
    init_field B rows p c.args.at (expr_of c.args.of.now) c.args.log.now.items c.local_init.new.log.items c.keeps_rows.ensures k s (field_key_of c.in-Field.field-0) here
    (sym (member_here p (plain k s) here) ∙ named) row c.kind_at-kind.result c.kind_at-kind.ensures h) c.local_init.ensures.notes

pub returns-in-Head-clause-notes : goal.returns-in-Head-clause-notes
returns-in-Head-clause-notes g c = λ k s here.
    let B = λ (m : g.row.A.Denot) (b : ℕ). (g.A.Mark.span_from m b).from in
    let rows = c.args.table.now in
    let e = expr_of c.args.of.now in
    let is = sym (member_here c.args.place.now (plain k s) here) ∙ ap member_key_of c.in-Head.is in
    IfOk-weaker c.put_value.result _ _ (λ u h.
    init_head B rows k s c.args.at e (notes_of rows k c.args.log.now.items) (notes_of rows k c.put_value.new.log.items) (maybe_notes B rows (plain k s) c.args.at (Some e)) (class_key_of c.in-Head.field-0) is h) (c.put_value.ensures.notes k s here)

pub returns-in-Method-clause-notes : goal.returns-in-Method-clause-notes
returns-in-Method-clause-notes g c = λ k s here.
    let B = λ (m : g.row.A.Denot) (b : ℕ). (g.A.Mark.span_from m b).from in
    let rows = c.args.table.now in
    let e = expr_of c.args.of.now in
    let is = sym (member_here c.args.place.now (plain k s) here) ∙ ap member_key_of c.in-Method.is in
    IfOk-weaker c.put_value-in-Method.result _ _ (λ u h.
    init_method B rows k s c.args.at e (notes_of rows k c.args.log.now.items) (notes_of rows k c.put_value-in-Method.new.log.items) (maybe_notes B rows (plain k s) c.args.at (Some e)) (method_key_of c.in-Method.field-0) is h) (c.put_value-in-Method.ensures.notes k s here)

pub returns-in-Ctor-clause-notes : goal.returns-in-Ctor-clause-notes
returns-in-Ctor-clause-notes g c = λ k s here.
    let B = λ (m : g.row.A.Denot) (b : ℕ). (g.A.Mark.span_from m b).from in
    let rows = c.args.table.now in
    let e = expr_of c.args.of.now in
    let is = sym (member_here c.args.place.now (plain k s) here) ∙ ap member_key_of c.in-Ctor.is in
    IfOk-weaker c.put_value-in-Ctor.result _ _ (λ u h.
    init_ctor B rows k s c.args.at e (notes_of rows k c.args.log.now.items) (notes_of rows k c.put_value-in-Ctor.new.log.items) (maybe_notes B rows (plain k s) c.args.at (Some e)) (ctor_key_of c.in-Ctor.field-0) is h) (c.put_value-in-Ctor.ensures.notes k s here)
