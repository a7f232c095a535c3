use Rattle.std.proofs.Common.{map}
use Rattle.std.proofs.lemmas.Result.{IfOk-weaker}
use Rattle.jr_members.specs.PartView.{written_of}
use Rattle.jr_cache.proofs.rebinding.rebind_members.Goals as goal

pub returns-clause-known : goal.returns-clause-known
returns-clause-known g c = IfOk-weaker c.rebind.result _ _ (λ v is. c.members_are_known.ensures.known c.args.program.now.table.now c.args.program.now.tokens.now (map written_of c.args.program.now.written.now) v.0.items c.requires.can is) c.rebind.ensures.each

pub returns-clause-order : goal.returns-clause-order
returns-clause-order g c = IfOk-weaker c.rebind.result _ _ (λ v is. c.members_are_known.ensures.order c.args.program.now.table.now c.args.program.now.tokens.now (map written_of c.args.program.now.written.now) v.0.items is) c.rebind.ensures.each
