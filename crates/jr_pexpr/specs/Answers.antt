-- What code answers, or want of memory: states, expressions in boxes, and expressions where they
-- fit.
use Rattle.std.specs.Prelude.{◌≡◌, Option, option_map, Result, IfOk}
use Rattle.std.specs.Global.{Global}
use Rattle.std.specs.declared.boxed.Box.{Box}
use Rattle.jr_text.specs.declared.spans.Span.{Span}
use Rattle.jr_ast.specs.declared.exprs.Expr.{Expr}
use Rattle.jr_ast.specs.Tree.{Exp}
use Rattle.jr_pexpr.specs.declared.state.State.{State}
use Rattle.jr_pexpr.specs.Machine as machine
use Rattle.jr_pexpr.specs.StateView.{state_view}
use Rattle.jr_pexpr.specs.ExpView.{exp_in, filled}

-- the next state, or that there is none
abbrev pub IsNext : {E : Type 0} → Result (Option State) E → Option (machine.State Span) → Type 0
IsNext result next = IfOk result (λ s. option_map state_view s ≡ next)

-- the expression
abbrev pub IsMade : {E : Type 0} → Result (Box (Expr Span) Global) E → Exp Span → Type 0
IsMade result e = IfOk result (λ made. exp_in made ≡ e)

-- the expression, or that there is none
abbrev pub IsFilled : {E : Type 0} → Result (Option (Box (Expr Span) Global)) E →
    Option (Exp Span) → Type 0
IsFilled result e = IfOk result (λ made. filled made ≡ e)
