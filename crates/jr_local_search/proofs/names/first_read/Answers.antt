use Rattle.std.proofs.Common.{◌≡◌, ◌∙◌, map, ap, sym}
use Rattle.std.proofs.lemmas.List.{drop_all}
use Rattle.jr_local_search.specs.Namings.{first_read as pure}
use Rattle.jr_local_search.specs.NamingView.{naming_of}
use Rattle.jr_local_search.proofs.NameRows.{read_here, read_later}
use Rattle.jr_local_search.proofs.names.first_read.Goals as goal

pub returns-then-is_read : goal.returns-then-is_read
returns-then-is_read c =
    let l = c.loop-naming in
    sym (l.invariant ∙ read_here c.args.namings.now l.naming-index _ c.loop-naming-test.true (sym c.is_read.ensures ∙ c.if-is_read.true))

pub loop-naming-preserved : goal.loop-naming-preserved
loop-naming-preserved c =
    let l = c.loop-naming in
    l.invariant ∙ read_later c.args.namings.now l.naming-index _ c.loop-naming-test.true (sym c.is_read.ensures ∙ c.if-is_read.false)

pub returns : goal.returns
returns c =
    let l = c.loop-naming in
    sym (l.invariant ∙ ap (λ ys. pure (map naming_of ys)) (drop_all l.naming-index c.args.namings.now c.loop-naming-test.false))
