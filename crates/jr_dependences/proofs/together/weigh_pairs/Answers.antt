use Rattle.std.proofs.Common.{ℕ, Option, subst}
use Rattle.std.specs.Prelude.{IfSome}
use Rattle.jr_dependences.specs.Summed.{WeighsOn, given_of}
use Rattle.jr_dependences.proofs.together.weigh_pairs.Goals as goal

pub returns-in-Some : goal.returns-in-Some
returns-in-Some c edges known flows =
    subst (λ (o : Option ℕ). IfSome o (WeighsOn (given_of edges c.args.of.now) c.args.first c.args.each)) c.in-Some.is (c.weigh_seconds.ensures edges (record { paths = known.paths; flows = flows }))
