use Rattle.std.proofs.Common.{Some, false, refl, sym, ap, ◌∙◌}
use Rattle.std.specs.Prelude.{codes, unwrap_or}
use Rattle.jr_ast.specs.View.{word_of, type_of, expr_of, expr_kind, expr_row, held_target}
use Rattle.jr_print.specs.ExpressionText.{printed, printed_type, printed_dot, printed_binary, printed_compound}
use Rattle.jr_print.specs.Starts.{starts}
use Rattle.jr_print.proofs.StartLaws.{number_starts, no_first, starts_on, starts_before, dot_starts}
use Rattle.jr_print.proofs.starts.+expr_starts.Goals as goal

pub returns-in-Int : goal.returns-in-Int
unfolding expr_kind expr_row held_target
returns-in-Int g t c =
    number_starts c.args.sign c.in-Int.field-0 c.requires ∙ sym (ap (λ k. starts c.args.sign (printed (expr_kind c.args.of.now.mark k))) c.in-Int.is)

pub returns-in-ClassLit : goal.returns-in-ClassLit
unfolding expr_kind expr_row held_target
returns-in-ClassLit g t c =
    let sign = c.args.sign in
    let at = c.in-ClassLit in
    let view = ap (λ k. starts sign (printed (expr_kind c.args.of.now.mark k))) at.is in
    ap Some (c.unwrap_or-in-ClassLit.ensures ∙ ap (λ r. unwrap_or r false) c.type_starts.ensures)
    ∙ starts_on sign (printed_type (type_of at.ty)) (codes ".class") false (no_first sign 46 c.requires refl refl) ∙ sym view

pub returns-in-Field : goal.returns-in-Field
unfolding expr_kind expr_row held_target
returns-in-Field g t c =
    let sign = c.args.sign in
    let at = c.in-Field in
    let part = at.part.value in
    let view = ap (λ k. starts sign (printed (expr_kind c.args.of.now.mark k))) at.is in
    let first = c.expr_starts.ensures ∙ ap (λ x. starts sign (printed (expr_of x))) c.deref.ensures in
    ap Some (c.unwrap_or.ensures ∙ ap (λ r. unwrap_or r false) first)
    ∙ starts_before sign (printed (expr_of part)) (printed_dot (expr_of part)) (word_of at.field-1).text false (dot_starts sign (expr_of part) (word_of at.field-1).text c.requires) ∙ sym view

pub returns-in-Binary : goal.returns-in-Binary
unfolding expr_kind expr_row held_target
returns-in-Binary g t c =
    let sign = c.args.sign in
    let at = c.in-Binary in
    let part = at.left.value in
    let view = ap (λ k. starts sign (printed (expr_kind c.args.of.now.mark k))) at.is in
    let first = c.expr_starts-in-Binary.ensures ∙ ap (λ x. starts sign (printed (expr_of x))) c.deref-in-Binary.ensures in
    ap Some (c.unwrap_or-in-Binary.ensures ∙ ap (λ r. unwrap_or r false) first)
    ∙ starts_before sign (printed (expr_of part)) (printed_binary at.field-0) (printed (expr_of at.field-2.value)) false (no_first sign 32 c.requires refl refl) ∙ sym view

pub returns-in-Assign : goal.returns-in-Assign
unfolding expr_kind expr_row held_target
returns-in-Assign g t c =
    let sign = c.args.sign in
    let at = c.in-Assign in
    let part = at.to.value in
    let view = ap (λ k. starts sign (printed (expr_kind c.args.of.now.mark k))) at.is in
    let first = c.expr_starts-in-Assign.ensures ∙ ap (λ x. starts sign (printed (expr_of x))) c.deref-in-Assign.ensures in
    ap Some (c.unwrap_or-in-Assign.ensures ∙ ap (λ r. unwrap_or r false) first)
    ∙ starts_before sign (printed (expr_of part)) (codes " = ") (printed (expr_of at.field-1.value)) false (no_first sign 32 c.requires refl refl) ∙ sym view

pub returns-in-Compound : goal.returns-in-Compound
unfolding expr_kind expr_row held_target
returns-in-Compound g t c =
    let sign = c.args.sign in
    let at = c.in-Compound in
    let part = at.to.value in
    let view = ap (λ k. starts sign (printed (expr_kind c.args.of.now.mark k))) at.is in
    let first = c.expr_starts-in-Compound.ensures ∙ ap (λ x. starts sign (printed (expr_of x))) c.deref-in-Compound.ensures in
    ap Some (c.unwrap_or-in-Compound.ensures ∙ ap (λ r. unwrap_or r false) first)
    ∙ starts_before sign (printed (expr_of part)) (printed_compound at.field-0) (printed (expr_of at.field-2.value)) false (no_first sign 32 c.requires refl refl) ∙ sym view
