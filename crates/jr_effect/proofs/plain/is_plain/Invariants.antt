use Rattle.std.proofs.Common.{take}
use Rattle.jr_effect.specs.Plain.{IsPlain}
use Rattle.jr_effect.proofs.plain.is_plain.Given as goal

abbrev pub invariant-loop-site : goal.invariant-loop-site
invariant-loop-site l = IsPlain (take l.site-index l.sites)
