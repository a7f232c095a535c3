use Rattle.std.proofs.Common.{ap, sym, subst}
use Rattle.std.specs.Prelude.{IfOk}
use Rattle.jr_new_bodies.specs.Known.{context_of}
use Rattle.jr_local_parts.specs.declared.elements.Reached as raw
use Rattle.jr_local_parts.specs.Descending.{GoesTo, place_of, step as pure}
use Rattle.jr_local_parts.proofs.Goings.{stays}
use Rattle.jr_local_parts.proofs.elements.step.Goals as goal

pub returns-in-List : goal.returns-in-List
returns-in-List c =
    let h = c.args.here.now in
    subst (λ (r : raw.Reached). IfOk c.pick.result (λ x. GoesTo h c.pick.new.here x (pure (place_of (context_of h) r) c.args.wanted))) (sym c.in-List.is) c.pick.ensures

pub returns-in-Element : goal.returns-in-Element
returns-in-Element c =
    let h = c.args.here.now in
    subst (λ (r : raw.Reached). IfOk c.stmt_step.result (λ x. GoesTo h c.stmt_step.new.here x (pure (place_of (context_of h) r) c.args.wanted))) (sym c.in-Element.is) c.stmt_step.ensures

pub returns-in-Part : goal.returns-in-Part
returns-in-Part c =
    let h = c.args.here.now in
    subst (λ (r : raw.Reached). IfOk c.stmt_step-in-Part.result (λ x. GoesTo h c.stmt_step-in-Part.new.here x (pure (place_of (context_of h) r) c.args.wanted))) (sym c.in-Part.is) c.stmt_step-in-Part.ensures

pub returns-in-Ended : goal.returns-in-Ended
returns-in-Ended c =
    let h = c.args.here.now in
    record { goes = stays h c.requires; is = ap (λ (r : raw.Reached). pure (place_of (context_of h) r) c.args.wanted) (sym c.in-Ended.is) }
