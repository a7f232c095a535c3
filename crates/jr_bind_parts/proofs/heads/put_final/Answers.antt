use Rattle.std.proofs.Common.{ℕ, sym, ap, ◌∙◌}
use Rattle.std.proofs.lemmas.Result.{IfOk-weaker}
use Rattle.jr_text.specs.declared.spans.Span.{Span}
use Rattle.jr_ast.specs.View.{type_of}
use Rattle.jr_bind_parts.specs.Heads.{is_final_at}
use Rattle.jr_bind_parts.proofs.Heading.{with_final, type_mark_is}
use Rattle.jr_bind_parts.proofs.heads.put_final.Goals as goal

pub returns : goal.returns
returns g c =
    let B = λ (m : g.row.A.Denot) (b : ℕ). (g.A.Mark.span_from m b).from in
    let rows = c.args.table.now in
    let at = c.args.at in
    let place = ap (λ (z : Span). z.from) c.span.ensures ∙ ap (λ (m : g.row.A.Denot). B m at) (sym (type_mark_is c.args.of.now)) in
    IfOk-weaker c.put_raw.result _ _ (λ u h.
    with_final B rows c.args.class at (type_of c.args.of.now) c.span.result.from c.is_final-is_broken.result c.args.log.now.items c.put_name.new.log.items c.put_raw.new.log.items c.in_ok-put_name.ensures
    (c.is_final-is_broken.ensures ∙ ap (is_final_at rows) c.parent_of.ensures) place h) c.put_raw.ensures
