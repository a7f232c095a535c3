use Rattle.std.proofs.Common.{take}
use Rattle.jr_bind.specs.ErrorView.{error_of}
use Rattle.jr_lines.specs.LineView.{lines_of}
use Rattle.jr_program.specs.Members.{AnyOf}
use Rattle.jr_lines.specs.MemberLines.{Adds, IsErrorAt}
use Rattle.jr_lines.proofs.member_lines.push_broken.Given as goal

abbrev pub invariant-loop-error : goal.invariant-loop-error
invariant-loop-error l = Adds (λ x. AnyOf (λ e. IsErrorAt l.start (error_of e) x) (take l.error-index l.errors)) (lines_of l.initial.lines.items) (lines_of l.lines.items)
