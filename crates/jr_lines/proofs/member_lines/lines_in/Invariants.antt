use Rattle.std.proofs.Common.{take}
use Rattle.std.specs.Prelude.{◌↔◌}
use Rattle.jr_lines.specs.Lines.{Line, Among}
use Rattle.jr_lines.specs.LineView.{lines_of}
use Rattle.jr_program.specs.Members.{AnyOf}
use Rattle.jr_lines.specs.MemberLines.{IsMemberLine}
use Rattle.jr_lines.proofs.member_lines.lines_in.Given as goal

abbrev pub invariant-loop-member : goal.invariant-loop-member
invariant-loop-member l = (x : Line) → Among (lines_of l.lines.items) x ↔ AnyOf (λ b. IsMemberLine l.text l.tokens b l.file x) (take l.member-index l.members)
