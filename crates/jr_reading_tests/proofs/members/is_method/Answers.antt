use Rattle.std.proofs.Common.{sym, subst}
use Rattle.jr_text.specs.declared.spans.Span.{Span}
use Rattle.jr_members.specs.declared.parts.PartRef.{PartRef}
use Rattle.jr_members.specs.PartView.{part_of}
use Rattle.jr_program_laws.specs.FileParts.{SuperStands}
use Rattle.jr_reading_tests.proofs.members.is_method.Goals as goal

pub returns-in-Member : goal.returns-in-Member
returns-in-Member c t items at = subst (λ (p : PartRef Span). SuperStands items (part_of p) at) (sym c.in-Member.is) (c.is_method_member.ensures t items at)
