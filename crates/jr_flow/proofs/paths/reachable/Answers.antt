use Rattle.std.proofs.lemmas.Result.{IfOk-weaker}
use Rattle.jr_flow.specs.Edges.{EdgeOf}
use Rattle.jr_flow.proofs.Telling.{no_stops}
use Rattle.jr_flow.proofs.paths.reachable.Goals as goal

pub returns : goal.returns
returns c =
    IfOk-weaker c.reaching.result _ _
    (λ reach tells from to. let same = no_stops (EdgeOf c.args.graph.now.edges.items) from to in (λ h. same.0 ((tells from to).0 h), λ p. (tells from to).1 (same.1 p)))
    c.reaching.ensures
