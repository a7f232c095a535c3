use Rattle.std.proofs.Common.{◌≡◌, ◌+◌, ◌++◌, ◌∷◌, [], List, take, sym, ap, subst, ◌∙◌}
use Rattle.std.proofs.lemmas.List.{take_more, take_all}
use Rattle.jr_program.specs.declared.bounds.MemberBound.{MemberBound}
use Rattle.jr_sources.specs.Broken.{SomeErrs, IsFirstOfAll}
use Rattle.jr_sources.proofs.broken.first_broken.Goals as goal

pub loop-member-preserved : goal.loop-member-preserved
loop-member-preserved c =
    let front = take c.loop-member.member-index c.args.members.now in
    let x = c.member-item.result in
    let more = take_more c.args.members.now c.loop-member.member-index x c.loop-member-test.true ∙ ap (λ y. front ++ y ∷ []) (sym c.member-item.is) in
    subst (λ (ms : List MemberBound). IsFirstOfAll (SomeErrs ms) c.with_member-best.result) (sym more) (c.with_member-best.ensures front c.loop-member.invariant)

pub returns : goal.returns
returns c = subst (λ (ms : List MemberBound). IsFirstOfAll (SomeErrs ms) c.loop-member.best) (take_all c.loop-member.member-index c.args.members.now c.loop-member-test.false) c.loop-member.invariant
