use Rattle.std.proofs.Common.{◌≡◌, ◌++◌, ◌∷◌, [], List, subst}
use Rattle.jr_table.specs.Errors.{Error}
use Rattle.jr_program.specs.declared.bounds.MemberBound.{MemberBound}
use Rattle.std.specs.Prelude.{◌⊎◌}
use Rattle.jr_sources.specs.Broken.{SomeErrs, IsOneOf, IsFirstOfAll}
use Rattle.jr_sources.proofs.Nearer.{told_as, one_more}
use Rattle.jr_sources.proofs.broken.with_member.Goals as goal

pub returns : goal.returns
returns c = λ front h.
    let b = c.args.member.now in
    let all = subst (λ (es : List Error). IsFirstOfAll (λ f a r. SomeErrs front f a r ⊎ IsOneOf b.file b.start es f a r) c.with_errors.result) c.errors.ensures (c.with_errors.ensures front h) in
    told_as (λ f a r. SomeErrs front f a r ⊎ IsOneOf b.file b.start b.bound.errors f a r) (SomeErrs (front ++ b ∷ [])) c.with_errors.result (one_more front b) all
