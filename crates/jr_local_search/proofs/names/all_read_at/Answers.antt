use Rattle.std.proofs.Common.{◌≡◌, ◌∙◌, map, ap, sym}
use Rattle.std.proofs.lemmas.List.{drop_all}
use Rattle.jr_local_search.specs.NamingView.{naming_of, all_read_at as pure}
use Rattle.jr_local_search.proofs.NameRows.{elsewhere_here, elsewhere_later}
use Rattle.jr_local_search.proofs.names.all_read_at.Goals as goal

pub returns-then-is_read_elsewhere : goal.returns-then-is_read_elsewhere
returns-then-is_read_elsewhere c =
    let l = c.loop-naming in
    sym (l.invariant ∙ elsewhere_here c.args.namings.now l.naming-index _ c.loop-naming-test.true c.args.at (sym c.is_read_elsewhere.ensures ∙ c.if-is_read_elsewhere.true))

pub loop-naming-preserved : goal.loop-naming-preserved
loop-naming-preserved c =
    let l = c.loop-naming in
    l.invariant ∙ elsewhere_later c.args.namings.now l.naming-index _ c.loop-naming-test.true c.args.at (sym c.is_read_elsewhere.ensures ∙ c.if-is_read_elsewhere.false)

pub returns : goal.returns
returns c =
    let l = c.loop-naming in
    sym (l.invariant ∙ ap (λ ys. pure c.args.at (map naming_of ys)) (drop_all l.naming-index c.args.namings.now c.loop-naming-test.false))
