-- How far parameters have been read, as the machine has it.
use Rattle.std.specs.Prelude.{◌≡◌, List, Vec, Option, option_map, Result, IfOk, map}
use Rattle.std.specs.Global.{Global}
use Rattle.jr_text.specs.declared.spans.Span.{Span}
use Rattle.jr_ast.specs.declared.parts.Param.{Param}
use Rattle.jr_ast.specs.MemberTree as tree
use Rattle.jr_ast.specs.View.{param_of}
use Rattle.jr_punit_members.specs.declared.params.ParamState.{ParamState}
use Rattle.jr_punit_members.specs.declared.params.ParamState.TheVariants as rust
use Rattle.jr_pstmt.specs.TypeStateView.{type_state}
use Rattle.jr_pstmt.specs.ParameterMachine as machine

abbrev pub params_view : Vec (Param Span) Global → List (tree.Param Span)
params_view ps = map param_of ps.items

abbrev pub param_state : ParamState → machine.State Span
param_state (rust.Want ps) = machine.want (params_view ps)
param_state (rust.InType ps start is_final type) =
    machine.in_type (params_view ps) start is_final (type_state type)
param_state (rust.Have ps) = machine.have (params_view ps)

-- the next state, or that there is none
abbrev pub IsNextParam : {E : Type 0} → Result (Option ParamState) E → Option (machine.State Span) →
    Type 0
IsNextParam result next = IfOk result (λ s. option_map param_state s ≡ next)
