use Rattle.std.proofs.Common.{◌≡◌, List, subst}
use Rattle.std.specs.Prelude.{Option, Some, None}
use Rattle.jr_program.specs.declared.bounds.MemberBound.{MemberBound}
use Rattle.jr_sources.specs.declared.broken.Broken.{Broken}
use Rattle.jr_sources.specs.Broken.{SomeErrs, IsFirstOfAll}
use Rattle.jr_sources.proofs.FirstErrors.{are_sound}
use Rattle.jr_sources.proofs.errors.first_error.Goals as goal

pub fault_of_first-requires-clause-first : goal.fault_of_first-requires-clause-first
fault_of_first-requires-clause-first c = subst (λ (ms : List MemberBound). IsFirstOfAll (SomeErrs ms) (Some c.in-Some.broken)) c.as_slice.ensures.value c.in-Some.ensures

pub returns-in-None : goal.returns-in-None
returns-in-None c = are_sound c.args.sources.now c.args.analysis.now c.requires c.text_has_one_reading.ensures c.one_answer.ensures.items (subst (λ (ms : List MemberBound). IsFirstOfAll (SomeErrs ms) None) c.as_slice.ensures.value c.in-None.ensures)
