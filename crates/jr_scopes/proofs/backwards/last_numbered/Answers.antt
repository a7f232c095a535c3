use Rattle.std.proofs.Common.{◌-◌, length, sym, ◌∙◌, arith}
use Rattle.std.proofs.lemmas.List.{length-take-le}
use Rattle.jr_scopes.specs.Tracked.{number_in, same_number}
use Rattle.jr_scopes.proofs.LastPlaces.{last_here, last_before}
use Rattle.jr_scopes.proofs.backwards.last_numbered.Goals as goal

pub returns-then-has_number : goal.returns-then-has_number
returns-then-has_number c =
    last_here (λ k. same_number (number_in k) c.args.number) c.loop-rest.rest.now c.last-item.result c.in-len1-up.len_at_least c.last-item.is (sym c.has_number.ensures ∙ c.if-has_number.true) ∙ c.loop-rest.invariant.same

pub loop-rest-preserved : goal.loop-rest-preserved
loop-rest-preserved c =
    let rest = c.loop-rest.rest.now in
    let fewer = length-take-le (length rest - 1) rest (omega arith) in
    record {
      same = last_before (λ k. same_number (number_in k) c.args.number) rest c.last-item.result c.in-len1-up.len_at_least c.last-item.is (sym c.has_number.ensures ∙ c.if-has_number.false) ∙ c.loop-rest.invariant.same;
      few = omega (arith, fewer, c.loop-rest.invariant.few);
    }
