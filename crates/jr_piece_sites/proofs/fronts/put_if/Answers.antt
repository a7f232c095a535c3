use Rattle.std.proofs.Common.{ap, sym}
use Rattle.jr_expr_sites.specs.Routes as route
use Rattle.jr_expr_sites.proofs.Walking.{on_ok_then}
use Rattle.jr_piece_sites.specs.Fronts.{one_if}
use Rattle.jr_piece_sites.proofs.Counting as counting
use Rattle.jr_piece_sites.proofs.fronts.put_if.Goals as goal

pub returns-then-is_so : goal.returns-then-is_so
returns-then-is_so c G =
    let old = c.args.out.now.items in
    let new = c.put_site.new.out.items in
    on_ok_then c.put_site.result (λ h. counting.grows_as G (λ o. 1) (λ o. one_if c.args.is_so) old new (λ o. ap one_if (sym c.if-is_so.true)) (counting.walk_grows G (route.done _ c.args.at) old new h)) (c.put_site.ensures G)

pub returns : goal.returns
returns c G =
    let old = c.args.out.now.items in
    counting.grows_as G (λ o. 0) (λ o. one_if c.args.is_so) old old (λ o. ap one_if (sym c.if-is_so.false)) (counting.stays G old)
