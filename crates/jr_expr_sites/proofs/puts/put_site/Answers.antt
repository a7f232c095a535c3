use Rattle.jr_expr_sites.proofs.Walking.{on_ok_then}
use Rattle.jr_expr_sites.proofs.puts.put_site.Goals as goal

pub returns : goal.returns
returns c g = on_ok_then c.put.result (λ h o. h) (c.put.ensures g.member)
