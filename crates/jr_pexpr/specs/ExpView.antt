-- What has been begun is ended: what code gives, as the machine has it.
use Rattle.std.specs.Prelude.{Option, Some, None, option_map, if◌then◌else◌}
use Rattle.std.specs.Global.{Global}
use Rattle.std.specs.declared.boxed.Box.{Box}
use Rattle.jr_text.specs.declared.spans.Span.{Span}
use Rattle.jr_ast.specs.declared.exprs.Expr.{Expr}
use Rattle.jr_ast.specs.Tree.{Exp}
use Rattle.jr_ast.specs.View.{expr_of}
use Rattle.jr_pexpr.specs.declared.stack.Stack.{Stack}
use Rattle.jr_pexpr.specs.StackView.{stack}
use Rattle.jr_grammar.specs.Tokens.{Token, Placed}
use Rattle.jr_pexpr.specs.Marked.{join}
use Rattle.jr_pexpr.specs.Machine.{Frame, State, have, fits, plug}

-- the expression in a box
abbrev pub exp_in : Box (Expr Span) Global → Exp Span
exp_in b = expr_of b.value

abbrev pub filled : Option (Box (Expr Span) Global) → Option (Exp Span)
filled o = option_map exp_in o

-- the frame with an expression in it, where that fits
abbrev pub plugged : Frame Span → Exp Span → Option (Exp Span)
plugged f e = if fits f e then Some (plug join f e) else None

-- where an expression stands on frames
abbrev pub standing : Stack × Box (Expr Span) Global → State Span
standing s = have (stack s.0) (exp_in s.1)

-- a token at a place
abbrev pub placed : Span → Token → Placed Span
placed at token = record { mark = at; token = token }
