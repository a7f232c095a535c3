use Rattle.std.proofs.Common.{◌∙◌, sym, ap}
use Rattle.std.specs.Prelude.{is_some}
use Rattle.jr_ast.specs.View.{expr_of}
use Rattle.jr_pexpr.specs.Machine.{is_target}
use Rattle.jr_pexpr.specs.Marked.{span_whole}
use Rattle.jr_pexpr.specs.Stacks.{ends}
use Rattle.jr_pexpr.specs.StackView.{stack}
use Rattle.jr_pexpr.specs.StateView.{mode_view}
use Rattle.jr_pexpr.proofs.Wholes.{ends_is}
use Rattle.jr_pexpr.proofs.state.State.is_whole.Goals as goal

pub returns-in-Have : goal.returns-in-Have
returns-in-Have c =
    let fs = stack c.args.self.now.on in
    c.ends.ensures ∙ ap (λ b. ends b fs) (c.is_target.ensures ∙ ap (λ e. is_target (expr_of e)) c.deref.ensures)
    ∙ ends_is fs (expr_of c.in-Have.e.value)
    ∙ ap (λ m. is_some (span_whole (mode_view fs m))) (sym c.in-Have.is)
