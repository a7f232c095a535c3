use Rattle.std.proofs.Common.{ℕ, Option, refl, subst}
use Rattle.std.specs.Prelude.{IfSome}
use Rattle.jr_dependences.specs.Summed.{WeighsOn, given_of}
use Rattle.jr_dependences.proofs.together.weigh_by.Goals as goal

pub returns-in-Some : goal.returns-in-Some
returns-in-Some c edges each known sums =
    subst (λ (o : Option ℕ). IfSome o (WeighsOn (given_of edges c.args.of.now) c.args.first each)) c.in-Some.is
    (c.weigh_sums.ensures (given_of edges c.args.of.now) each (record { paths = known.paths; summed = sums }) refl)
