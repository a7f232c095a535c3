use Rattle.std.proofs.Common.{◌-◌, length, sym, ◌∙◌, arith}
use Rattle.std.proofs.lemmas.List.{length-take-le}
use Rattle.std.specs.Str.{bytes_eq}
use Rattle.jr_scopes.specs.Tracked.{name_in}
use Rattle.jr_scopes.proofs.LastPlaces.{last_here, last_before}
use Rattle.jr_scopes.proofs.backwards.last_named.Goals as goal

pub returns-then-has_name : goal.returns-then-has_name
returns-then-has_name c =
    last_here (λ k. bytes_eq (name_in k) c.args.name.now) c.loop-rest.rest.now c.last-item.result c.in-len1-up.len_at_least c.last-item.is (sym c.has_name.ensures ∙ c.if-has_name.true) ∙ c.loop-rest.invariant.same

pub loop-rest-preserved : goal.loop-rest-preserved
loop-rest-preserved c =
    let rest = c.loop-rest.rest.now in
    let fewer = length-take-le (length rest - 1) rest (omega arith) in
    record {
      same = last_before (λ k. bytes_eq (name_in k) c.args.name.now) rest c.last-item.result c.in-len1-up.len_at_least c.last-item.is (sym c.has_name.ensures ∙ c.if-has_name.false) ∙ c.loop-rest.invariant.same;
      few = omega (arith, fewer, c.loop-rest.invariant.few);
    }
