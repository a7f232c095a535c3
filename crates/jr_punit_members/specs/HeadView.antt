-- What stands before the parts of a member that are read by machines of their own, as the machine
-- has it.
use Rattle.std.specs.Prelude.{option_map}
use Rattle.jr_text.specs.declared.spans.Span.{Span}
use Rattle.jr_ast.specs.View.{word_of, type_of, args_of}
use Rattle.jr_punit_members.specs.declared.heads.Constructor.{Constructor}
use Rattle.jr_punit_members.specs.declared.heads.Head.{Head}
use Rattle.jr_punit_members.specs.declared.heads.Head.TheVariants as head
use Rattle.jr_punit_members.specs.declared.heads.Body.{Body}
use Rattle.jr_punit_members.specs.declared.heads.Body.TheVariants as body
use Rattle.jr_punit_members.specs.LeadView.{lead_view}
use Rattle.jr_punit_members.specs.ParamView.{params_view}
use Rattle.jr_pstmt.specs.OwnMachine as machine

abbrev pub head_view : Head → machine.Head Span
head_view (head.Method b) =
    machine.method_head (lead_view b.value.lead) (option_map type_of b.value.result)
    (word_of b.value.name)
head_view (head.Constructor b) =
    machine.constructor_head (lead_view b.value.lead) (word_of b.value.name)

abbrev pub constructor_view : Constructor → machine.Constructor Span
constructor_view k =
    record { lead = lead_view k.lead; word = word_of k.name; params = params_view k.params }

abbrev pub body_view : Body → machine.Body Span
body_view (body.Method b params) =
    machine.method_body (lead_view b.value.lead) (option_map type_of b.value.result)
    (word_of b.value.name) (params_view params)
body_view (body.Constructor b args) =
    machine.constructor_body (constructor_view b.value) (args_of args)
