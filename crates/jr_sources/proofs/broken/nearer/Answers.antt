use Rattle.std.proofs.Common.{◌≡◌, Option, Some, sym, subst, true≢false, ◌∙◌}
use Rattle.jr_sources.specs.declared.broken.Broken.{Broken}
use Rattle.jr_sources.specs.Broken.{IsNearer}
use Rattle.jr_sources.proofs.Nearer.{alone, stays, gives_way}
use Rattle.jr_sources.proofs.broken.nearer.Goals as goal

pub returns-in-None : goal.returns-in-None
returns-in-None c = subst (λ (o : Option Broken). IsNearer o c.args.next c.args.next) (sym c.in-None.is) (alone c.args.next)

pub returns-then-is_no_later : goal.returns-then-is_no_later
returns-then-is_no_later c = subst (λ (o : Option Broken). IsNearer o c.args.next c.in-Some.best) (sym c.in-Some.is) (stays c.in-Some.best c.args.next (c.is_no_later.ensures.0 c.if-is_no_later.true))

pub returns-else-is_no_later : goal.returns-else-is_no_later
returns-else-is_no_later c = subst (λ (o : Option Broken). IsNearer o c.args.next c.args.next) (sym c.in-Some.is) (gives_way c.in-Some.best c.args.next (λ h. true≢false (sym (c.is_no_later.ensures.1 h) ∙ c.if-is_no_later.false)))
