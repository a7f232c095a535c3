use Rattle.std.proofs.Common.{◌≡◌, ◌++◌, drop, map}
use Rattle.std.specs.Prelude.{string_bytes}
use Rattle.jr_ast.specs.View.{param_of}
use Rattle.jr_print.specs.MemberText.{printed_more_params}
use Rattle.jr_print.proofs.parts.more_params.Given as goal

-- what is printed, with what is left, is all
abbrev pub invariant-loop-param : goal.invariant-loop-param
invariant-loop-param g l = string_bytes l.out ++ printed_more_params (map param_of (drop l.param-index l.list)) ≡ string_bytes l.initial.out ++ printed_more_params (map param_of l.list)
