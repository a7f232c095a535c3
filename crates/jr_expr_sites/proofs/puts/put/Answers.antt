use Rattle.jr_expr_sites.proofs.Walking.{one_more}
use Rattle.jr_expr_sites.proofs.puts.put.Goals as goal

pub returns : goal.returns
returns c key = one_more key c.args.out.now.items c.push.new.self.items c.args.step c.in_ok-push.ensures.items
