use Rattle.std.proofs.Common.{ℕ, List, ap, ◌∙◌}
use Rattle.std.proofs.lemmas.Result.{IfOk-weaker}
use Rattle.jr_text.specs.declared.spans.Span.{Span}
use Rattle.jr_table.specs.Entries.{entries_of}
use Rattle.jr_table.specs.Fields.{find_member_type}
use Rattle.jr_bind_expr.specs.Numbered.{in_class}
use Rattle.jr_bind_parts.proofs.Declaring.{dotted_found}
use Rattle.jr_bind_parts.proofs.declared.put_dotted.Goals as goal

pub returns : goal.returns
returns g c =
    let rows = c.args.table.now in
    let class = c.args.class in
    let named = ap (λ (n : List ℕ). in_class c.class_found.result (λ k. find_member_type (entries_of rows) class k n)) c.as_str.ensures in
    IfOk-weaker c.put_declared-2.result _ _ (λ u h.
    dotted_found rows class _ _ _ _ _ _ _ _ c.class_found.result _ _ _ (ap (λ (z : Span). z.from) c.span.ensures) (ap (λ (z : Span). z.from) c.span-2.ensures)
    c.type_at-first.ensures c.class_found.ensures (c.type_in-second.ensures ∙ named) c.in_ok-put_declared.ensures h) c.put_declared-2.ensures
