use Rattle.std.proofs.Common.{take}
use Rattle.jr_table.specs.Decls.{MemberKey}
use Rattle.jr_member_graphs.specs.NotesView.{noted}
use Rattle.jr_member_graphs.proofs.FlagSteps.{Marks}
use Rattle.jr_member_graphs.proofs.flags.written_locals.Given as goal

abbrev pub invariant-loop-step : goal.invariant-loop-step
invariant-loop-step l = (key : MemberKey) → Marks (noted key (take l.step-index l.steps)) l.count l.marks.items
