use Rattle.std.proofs.Common.{ℕ, Option, subst, arith}
use Rattle.std.proofs.lemmas.Bool.{iff_false}
use Rattle.jr_flow.specs.Least.{IsLeast}
use Rattle.jr_flow.specs.Nodes.{IsReached}
use Rattle.jr_flow.proofs.Lesser.{least_past, least_first, least_lower, least_higher}
use Rattle.jr_flow.proofs.used.lesser.Goals as goal

pub returns-then-not-has : goal.returns-then-not-has
returns-then-not-has c reads h = least_past (IsReached c.args.reached.now) reads c.args.read c.args.least (iff_false c.has.ensures c.if-not-has.true) h

pub returns-in-None : goal.returns-in-None
returns-in-None c reads h =
    least_first (IsReached c.args.reached.now) reads c.args.read (c.has.ensures.0 c.if-not-has.false)
    (subst (λ (o : Option ℕ). IsLeast (IsReached c.args.reached.now) reads o) c.in-None.is h)

pub returns-then-is_lower : goal.returns-then-is_lower
returns-then-is_lower c reads h =
    least_lower (IsReached c.args.reached.now) reads c.args.read c.in-Some.other (c.has.ensures.0 c.if-not-has.false) (omega arith)
    (subst (λ (o : Option ℕ). IsLeast (IsReached c.args.reached.now) reads o) c.in-Some.is h)

pub returns-else-is_lower : goal.returns-else-is_lower
returns-else-is_lower c reads h =
    least_higher (IsReached c.args.reached.now) reads c.args.read c.in-Some.other (omega arith)
    (subst (λ (o : Option ℕ). IsLeast (IsReached c.args.reached.now) reads o) c.in-Some.is h)
