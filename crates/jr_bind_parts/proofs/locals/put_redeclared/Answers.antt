use Rattle.std.proofs.Common.{◌≡◌, ℕ, ◌++◌, ap, ◌∙◌}
use Rattle.std.proofs.lemmas.Result.{IfOk-weaker}
use Rattle.std.specs.Prelude.{is_some}
use Rattle.jr_text.specs.declared.spans.Span.{Span}
use Rattle.jr_ast.specs.View.{word_of}
use Rattle.jr_table.specs.Notes.{when, breaks}
use Rattle.jr_table.specs.Scope.{last_named}
use Rattle.jr_table.specs.Context.{scope_of}
use Rattle.jr_table.specs.declared.rules.Rule.TheVariants as rule
use Rattle.jr_bind_expr.specs.Places.{context_of, member_of}
use Rattle.jr_bind_expr.specs.Logs.{notes_of}
use Rattle.jr_bind_parts.proofs.LocalSteps.{held_is}
use Rattle.jr_bind_parts.proofs.locals.put_redeclared.Goals as goal

pub returns : goal.returns
returns g c =
    let B = λ (m : g.row.A.Denot) (b : ℕ). (g.A.Mark.span_from m b).from in
    let rows = c.args.table.now in
    let p = c.args.place.now in
    let w = word_of c.args.name.now in
    let held : c.is_some-is_held.result ≡ is_some (last_named w.text (scope_of (context_of p)).locals) =
    c.is_some-is_held.ensures ∙ ap is_some c.number_named.ensures ∙ held_is p w.text in
    let place : c.span-at_name.result.from ≡ B w.mark c.args.at = ap (λ (z : Span). z.from) c.span-at_name.ensures in
    IfOk-weaker c.put_when.result _ _ (λ u h. h ∙ (λ i. notes_of rows (member_of p) c.args.log.now.items ++ when (held i) (breaks (place i) rule.Redeclared))) c.put_when.ensures
