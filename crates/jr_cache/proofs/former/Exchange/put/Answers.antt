use Rattle.std.proofs.Common.{ap, ◌∙◌}
use Rattle.std.specs.Prelude.{slice_set}
use Rattle.jr_cache.specs.HadBack.{with_replaced}
use Rattle.jr_cache.proofs.HadBack.{one_replaced}
use Rattle.jr_cache.proofs.former.Exchange.put.Goals as goal

pub returns-clause-back : goal.returns-clause-back
returns-clause-back c =
    let now = c.args.self.now in
    ap (λ bs. with_replaced c.push.new.self.items bs) c.exchange_at-bound.ensures.becomes
    ∙ ap (λ rs. with_replaced rs (slice_set now.bounds.items c.args.number c.args.bound)) c.in_ok-push.ensures.items
    ∙ one_replaced now.replaced.items now.bounds.items c.args.number c.args.bound c.exchange_at-bound.result c.exchange_at-bound.ensures.had
