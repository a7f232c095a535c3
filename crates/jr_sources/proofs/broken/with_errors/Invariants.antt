use Rattle.std.proofs.Common.{List}
use Rattle.jr_program.specs.declared.bounds.MemberBound.{MemberBound}
use Rattle.jr_sources.specs.Broken.{SomeErrs, IsFirstOfAll}
use Rattle.jr_sources.proofs.Nearer.{UpTo}
use Rattle.jr_sources.proofs.broken.with_errors.Given as goal

abbrev pub invariant-loop-error : goal.invariant-loop-error
invariant-loop-error l = (front : List MemberBound) → IsFirstOfAll (SomeErrs front) l.initial.best → IsFirstOfAll (UpTo front l.member l.errors l.error-index) l.best
