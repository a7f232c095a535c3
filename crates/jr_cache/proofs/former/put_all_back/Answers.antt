use Rattle.std.proofs.Common.{sym, ap, refl, ◌∙◌, arith}
use Rattle.jr_cache.specs.HadBack.{with_replaced}
use Rattle.jr_cache.proofs.HadBack.{one_back, none_left}
use Rattle.jr_cache.proofs.former.put_all_back.Goals as goal

pub loop-bounds-init : goal.loop-bounds-init
loop-bounds-init c = refl

pub returns-in-None : goal.returns-in-None
returns-in-None c =
    let l = c.loop-bounds in
    ap (λ rs. with_replaced rs l.bounds.items) (sym (none_left l.replaced.items (sym l.replaced.ok.0 ∙ c.in-None.ensures.cases.0))) ∙ l.invariant

pub loop-bounds-preserved : goal.loop-bounds-preserved
loop-bounds-preserved c =
    let l = c.loop-bounds in
    one_back c.pop.new.self.items l.replaced.items c.in-Some.last l.bounds.items c.put_back.new.bounds.items c.in-Some.ensures.items c.put_back.ensures ∙ l.invariant

pub loop-bounds-smaller : goal.loop-bounds-smaller
loop-bounds-smaller c = let less = c.in-Some.ensures.cases in omega (arith, less)
