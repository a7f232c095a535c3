use Rattle.std.proofs.Common.{◌∙◌, sym, ap}
use Rattle.std.specs.Prelude.{is_some}
use Rattle.jr_ast.specs.View.{expr_of}
use Rattle.jr_pexpr.specs.Machine.{name_type}
use Rattle.jr_pexpr.specs.StackView.{stack}
use Rattle.jr_pexpr.specs.StateView.{mode_view}
use Rattle.jr_pexpr.specs.Starts.{type_read}
use Rattle.jr_pexpr.proofs.StartReads.{read_alone, not_read}
use Rattle.jr_pexpr.proofs.state.State.is_type.Goals as goal

pub returns-then-is_empty : goal.returns-then-is_empty
returns-then-is_empty c =
    let fs = stack c.args.self.now.on in
    c.is_name_type.ensures ∙ ap (λ e. is_some (name_type (expr_of e))) c.deref.ensures
    ∙ ap is_some (read_alone fs (expr_of c.in-Have.e.value) (sym c.is_empty.ensures ∙ c.if-is_empty.true))
    ∙ ap (λ m. is_some (type_read (mode_view fs m))) (sym c.in-Have.is)

pub returns-else-is_empty : goal.returns-else-is_empty
returns-else-is_empty c =
    let fs = stack c.args.self.now.on in
    c.if-is_empty.false
    ∙ ap is_some (not_read fs (expr_of c.in-Have.e.value) (sym c.is_empty.ensures ∙ c.if-is_empty.false))
    ∙ ap (λ m. is_some (type_read (mode_view fs m))) (sym c.in-Have.is)
