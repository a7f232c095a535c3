use Rattle.std.proofs.Common.{◌≡◌, ◌∙◌, map, ap, sym}
use Rattle.std.proofs.lemmas.List.{drop_all}
use Rattle.jr_local_search.specs.Namings.{first_target as pure}
use Rattle.jr_local_search.specs.NamingView.{naming_of}
use Rattle.jr_local_search.proofs.NameRows.{target_here, target_later}
use Rattle.jr_local_search.proofs.names.first_target.Goals as goal

pub returns-then-is_target : goal.returns-then-is_target
returns-then-is_target c =
    let l = c.loop-naming in
    sym (l.invariant ∙ target_here c.args.namings.now l.naming-index _ c.loop-naming-test.true (sym c.is_target.ensures ∙ c.if-is_target.true))

pub loop-naming-preserved : goal.loop-naming-preserved
loop-naming-preserved c =
    let l = c.loop-naming in
    l.invariant ∙ target_later c.args.namings.now l.naming-index _ c.loop-naming-test.true (sym c.is_target.ensures ∙ c.if-is_target.false)

pub returns : goal.returns
returns c =
    let l = c.loop-naming in
    sym (l.invariant ∙ ap (λ ys. pure (map naming_of ys)) (drop_all l.naming-index c.args.namings.now c.loop-naming-test.false))
