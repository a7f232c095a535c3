-- Where a member or class begins, and its modifiers, as the machine has it.
use Rattle.std.specs.Prelude.{List, Vec, map}
use Rattle.std.specs.Global.{Global}
use Rattle.jr_text.specs.declared.spans.Span.{Span}
use Rattle.jr_ast.specs.declared.parts.Modifier.{Modifier}
use Rattle.jr_ast.specs.MemberTree as tree
use Rattle.jr_ast.specs.View.{modifier_of}
use Rattle.jr_punit_members.specs.declared.leads.Lead.{Lead}
use Rattle.jr_pstmt.specs.OwnMachine as machine

abbrev pub modifiers_view : Vec (Modifier Span) Global → List (tree.Modifier Span)
modifiers_view ms = map modifier_of ms.items

abbrev pub lead_view : Lead → machine.Lead Span
lead_view l = record { start = l.start; modifiers = modifiers_view l.modifiers }
