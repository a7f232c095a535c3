use Rattle.std.proofs.Common.{sym, arith}
use Rattle.std.proofs.lemmas.List.{set_past}
use Rattle.jr_cache.proofs.former.put_back.Goals as goal

pub returns-then-number-len : goal.returns-then-number-len
returns-then-number-len c = c.exchange_at.ensures.becomes

pub returns-else-number-len : goal.returns-else-number-len
returns-else-number-len c =
    let over = c.if-number-len.false in
    let long = c.args.bounds.now.ok.0 in
    sym (set_past c.args.bounds.now.items c.args.replaced.number c.args.replaced.bound (omega (arith, over, long)))
