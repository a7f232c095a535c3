use Rattle.std.proofs.Common.{◌∙◌, ◌&&◌, ◌≡◌, Bool, true, false, sym, ap}
use Rattle.std.specs.Prelude.{is_some}
use Rattle.jr_ast.specs.View.{expr_of}
use Rattle.jr_pexpr.specs.Machine.{is_target, is_statement}
use Rattle.jr_pexpr.specs.Marked.{span_statement_whole}
use Rattle.jr_pexpr.specs.Stacks.{ends, is_form}
use Rattle.jr_pexpr.specs.StackView.{stack}
use Rattle.jr_pexpr.specs.StateView.{mode_view}
use Rattle.jr_pexpr.proofs.Wholes.{form_is}
use Rattle.jr_pexpr.proofs.state.State.is_statement.Goals as goal

pub returns-then-ends : goal.returns-then-ends
returns-then-ends c =
    let fs = stack c.args.self.now.on in
    let e = expr_of c.in-Have.e.value in
    let ended : true ≡ ends (is_target e) fs = sym c.if-ends.true ∙ c.ends.ensures ∙ ap (λ b. ends b fs) (c.is_target.ensures ∙ ap (λ e. is_target (expr_of e)) c.deref.ensures) in
    c.is_form.ensures ∙ ap (λ b. is_form b fs) (c.is_statement.ensures ∙ ap (λ e. is_statement (expr_of e)) c.deref-then-ends.ensures)
    ∙ ap (λ (b : Bool). b && is_form (is_statement e) fs) ended
    ∙ form_is fs e
    ∙ ap (λ m. is_some (span_statement_whole (mode_view fs m))) (sym c.in-Have.is)

pub returns-else-ends : goal.returns-else-ends
returns-else-ends c =
    let fs = stack c.args.self.now.on in
    let e = expr_of c.in-Have.e.value in
    let ended : false ≡ ends (is_target e) fs = sym c.if-ends.false ∙ c.ends.ensures ∙ ap (λ b. ends b fs) (c.is_target.ensures ∙ ap (λ e. is_target (expr_of e)) c.deref.ensures) in
    c.if-ends.false
    ∙ ap (λ (b : Bool). b && is_form (is_statement e) fs) ended
    ∙ form_is fs e
    ∙ ap (λ m. is_some (span_statement_whole (mode_view fs m))) (sym c.in-Have.is)
