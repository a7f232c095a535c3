use Rattle.std.proofs.Common.{take}
use Rattle.jr_lines.specs.LineView.{lines_of}
use Rattle.jr_program.specs.Members.{AnyOf}
use Rattle.jr_lines.specs.MemberLines.{Adds, IsReferenceAt}
use Rattle.jr_lines.proofs.member_lines.push_each.Given as goal

abbrev pub invariant-loop-reference : goal.invariant-loop-reference
invariant-loop-reference l = Adds (λ x. AnyOf (λ r. IsReferenceAt l.text l.tokens l.member.start l.member.bound.references r.at x) (take l.reference-index l.references)) (lines_of l.initial.lines.items) (lines_of l.lines.items)
