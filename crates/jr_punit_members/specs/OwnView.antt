-- How far a member that is no class has been read, as the machine has it.
use Rattle.std.specs.Prelude.{◌≡◌, Option, Some, None, option_map, Result, IfOk}
use Rattle.jr_text.specs.declared.spans.Span.{Span}
use Rattle.jr_ast.specs.View.{word_of, type_of, exprs_of, member_of}
use Rattle.jr_pexpr.specs.StateView.{state_view}
use Rattle.jr_punit_members.specs.declared.own.OwnState.{OwnState}
use Rattle.jr_punit_members.specs.declared.own.OwnState.TheVariants as rust
use Rattle.jr_pstmt.specs.TypeStateView.{type_state}
use Rattle.jr_punit_members.specs.ArgView.{arg_state}
use Rattle.jr_punit_members.specs.ParamView.{params_view, param_state}
use Rattle.jr_pstmt.specs.ListView.{list_state}
use Rattle.jr_punit_members.specs.LeadView.{modifiers_view, lead_view}
use Rattle.jr_punit_members.specs.HeadView.{head_view, constructor_view, body_view}
use Rattle.jr_pstmt.specs.OwnMachine as machine

abbrev pub own_state : OwnState → machine.State Span
own_state (rust.Modified ms) = machine.modified (modifiers_view ms)
own_state (rust.InType lead type) = machine.in_type (lead_view lead) (type_state type)
own_state (rust.Voided lead) = machine.voided (lead_view lead)
own_state (rust.Worded b) =
    machine.worded (lead_view b.value.lead) (option_map type_of b.value.result)
    (word_of b.value.name)
own_state (rust.InValue b value) =
    machine.in_value (lead_view b.value.lead) (type_of b.value.ty) (word_of b.value.name)
    (state_view value)
own_state (rust.InParams head params) = machine.in_params (head_view head) (param_state params)
own_state (rust.Headed head params) = machine.headed (head_view head) (params_view params)
own_state (rust.InConstructor of) = machine.in_constructor (constructor_view of.value)
own_state (rust.AtSuper of at) = machine.at_super (constructor_view of.value) at
own_state (rust.InSuper of args) = machine.in_super (constructor_view of.value) (arg_state args)
own_state (rust.BehindSuper of args) =
    machine.behind_super (constructor_view of.value) (exprs_of args.items)
own_state (rust.InBody body items) = machine.in_body (body_view body.value) (list_state items.value)
own_state (rust.Done member) = machine.done (member_of member.value)

-- the next state, or that there is none
abbrev pub IsNextOwn : {E : Type 0} → Result (Option OwnState) E → Option (machine.State Span) →
    Type 0
IsNextOwn result next = IfOk result (λ s. option_map own_state s ≡ next)

-- behind modifiers alone: what has them, and where it begins
abbrev pub begun : {A : Type 0} → machine.State A → A → Option (machine.Lead A)
begun (machine.modified ms) at = Some (machine.lead_of ms at)
begun _ at = None
